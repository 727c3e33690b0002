use Rattle.std.proofs.Common.{◌∷◌, [], subst, sym}
use Rattle.std.specs.List.{Contains}
use Rattle.file_model.specs.Arrived.{Arrived, worlds_since}
use Rattle.file_model.specs.Histories.{World, instant}
use Rattle.file_model.specs.Kept.{IsAtRest}
use Rattle.session_loop.specs.Headline.{IsBounded}
use Rattle.imap_session.specs.Laws.{says_something}
use Rattle.imapd_core.specs.Promises.{Says, IsServedAs, IsSettled}
use Rattle.imapd_core.specs.Runs.{formats, state_of, AtTheEnd}
use Rattle.imapd_core.specs.Statuses.{WasServed, status_of_end}
use Rattle.imapd_core.proofs.Served.{KeepsSince, of_root, of_some, keeps_since, opening_said, opening_bounded, opening_crash, restarts, some_state, goes_on, served_as, rest_pending}
use Rattle.imapd_core.proofs.Settled.{session_settled, quiet_settled}
use Rattle.imapd_core.proofs.server.serve_root.Goals as goal

pub serve-requires-clause-stands : goal.serve-requires-clause-stands
serve-requires-clause-stands g c = some_state c.args.root.now c.args.moment c.in-Ok.server.session _ _ c.in-Ok.ensures.opened

pub returns-in-Ok-clause-says : goal.returns-in-Ok-clause-says
returns-in-Ok-clause-says g c =
    let old = g.H.Files.history c.args.host.now in
    let new = g.H.Files.history c.serve.new.host in
    of_root c.args.root.now c.args.moment old (λ run. (world : World) → Contains (worlds_since (instant old) new) world → Says formats run world)
    (λ tree now. c.serve.ensures.said old (state_of c.args.root.now c.args.moment tree) (c.in-Ok.ensures.opened tree now))

pub returns-in-Ok-clause-served : goal.returns-in-Ok-clause-served
returns-in-Ok-clause-served g c =
    let old = g.H.Files.history c.args.host.now in
    let new = g.H.Files.history c.serve.new.host in
    subst (λ status. WasServed status → AtTheEnd formats (c.args.root.now ∷ []) c.args.moment old new (IsServedAs formats status)) (sym c.status_of_end.ensures)
    (λ was. of_root c.args.root.now c.args.moment old (λ run. Arrived (λ start world. IsServedAs formats (status_of_end c.serve.result) run world) old new)
    (λ tree now. served_as c.serve.new.session.session c.serve.result c.args.root.now c.args.moment tree old new
    (c.serve.ensures.served old (state_of c.args.root.now c.args.moment tree) (c.in-Ok.ensures.opened tree now)) was))

pub returns-in-Ok-clause-crash : goal.returns-in-Ok-clause-crash
returns-in-Ok-clause-crash g c =
    let old = g.H.Files.history c.args.host.now in
    let new = g.H.Files.history c.serve.new.host in
    of_root c.args.root.now c.args.moment old (λ run. IsAtRest run.start.disk → KeepsSince run old new)
    (λ tree now. keeps_since c.args.root.now c.args.moment tree old new (g.met.H.Files.sound c.args.host.now) now
    (c.serve.ensures.crash old (state_of c.args.root.now c.args.moment tree) (says_something formats) (c.in-Ok.ensures.opened tree now)))

pub returns-in-Ok-clause-restart : goal.returns-in-Ok-clause-restart
returns-in-Ok-clause-restart g c = restarts (c.args.root.now ∷ []) c.args.moment (g.H.Files.history c.args.host.now) (g.H.Files.history c.serve.new.host)

pub returns-in-Ok-clause-settled : goal.returns-in-Ok-clause-settled
returns-in-Ok-clause-settled g c =
    let old = g.H.Files.history c.args.host.now in
    let mid = g.H.Files.history c.open.new.files in
    let new = g.H.Files.history c.serve.new.host in
    let on = goes_on c.args.root.now c.args.moment c.in-Ok.server.session old mid new c.in-Ok.ensures.opened (λ state is. c.serve.ensures.instants mid state is) in
    of_root c.args.root.now c.args.moment old (λ run. IsAtRest run.start.disk → IsSettled old new run)
    (λ tree now. rest_pending c.args.root.now c.args.moment tree old new (λ run is none. session_settled c.args.root.now old mid new run is none c.in-Ok.ensures.runs c.in-Ok.ensures.made on.0 on.1))

pub returns-in-Ok-clause-short : goal.returns-in-Ok-clause-short
returns-in-Ok-clause-short g c =
    let old = g.H.Files.history c.args.host.now in
    let new = g.H.Files.history c.serve.new.host in
    of_some c.args.root.now old (λ start. (world : World) → Contains (worlds_since (instant old) new) world → IsBounded start world)
    (λ tree now. c.serve.ensures.bounded old (state_of c.args.root.now c.args.moment tree) (c.in-Ok.ensures.opened tree now))

pub returns-in-Err-clause-says : goal.returns-in-Err-clause-says
returns-in-Err-clause-says g c =
    let old = g.H.Files.history c.args.host.now in
    let new = g.H.Files.history c.open.new.files in
    of_root c.args.root.now c.args.moment old (λ run. (world : World) → Contains (worlds_since (instant old) new) world → Says formats run world)
    (λ tree now. opening_said c.args.root.now c.args.moment tree old new (c.open.ensures.instants tree now))

pub returns-in-Err-clause-crash : goal.returns-in-Err-clause-crash
returns-in-Err-clause-crash g c =
    let old = g.H.Files.history c.args.host.now in
    let new = g.H.Files.history c.open.new.files in
    of_root c.args.root.now c.args.moment old (λ run. IsAtRest run.start.disk → KeepsSince run old new)
    (λ tree now. keeps_since c.args.root.now c.args.moment tree old new (g.met.H.Files.sound c.args.host.now) now
    (opening_crash c.args.root.now c.args.moment tree old new (c.open.ensures.instants tree now)))

pub returns-in-Err-clause-restart : goal.returns-in-Err-clause-restart
returns-in-Err-clause-restart g c = restarts (c.args.root.now ∷ []) c.args.moment (g.H.Files.history c.args.host.now) (g.H.Files.history c.open.new.files)

pub returns-in-Err-clause-settled : goal.returns-in-Err-clause-settled
returns-in-Err-clause-settled g c =
    let old = g.H.Files.history c.args.host.now in
    let new = g.H.Files.history c.open.new.files in
    of_root c.args.root.now c.args.moment old (λ run. IsAtRest run.start.disk → IsSettled old new run)
    (λ tree now. rest_pending c.args.root.now c.args.moment tree old new (λ run is none. quiet_settled c.args.root.now old new run c.open.ensures.runs))

pub returns-in-Err-clause-short : goal.returns-in-Err-clause-short
returns-in-Err-clause-short g c =
    let old = g.H.Files.history c.args.host.now in
    let new = g.H.Files.history c.open.new.files in
    of_some c.args.root.now old (λ start. (world : World) → Contains (worlds_since (instant old) new) world → IsBounded start world)
    (λ tree now. opening_bounded c.args.root.now c.args.moment tree old new (c.open.ensures.instants tree now))
