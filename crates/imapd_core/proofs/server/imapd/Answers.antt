use Rattle.std.proofs.Common.{◌∷◌, [], refl, sym, ◌∙◌, subst, map, string_bytes}
use Rattle.std.proofs.lemmas.Bool.{false≢true}
use Rattle.std.specs.List.{Contains}
use Rattle.file_model.specs.Arrived.{worlds_since}
use Rattle.file_model.specs.Histories.{World, instant}
use Rattle.file_model.specs.Kept.{IsAtRest}
use Rattle.file_model.proofs.Runs.{ran_none, now_all}
use Rattle.file_model.specs.Kept.{MayMake}
use Rattle.session_loop.specs.Headline.{IsBounded}
use Rattle.imapd_core.specs.Promises.{Says, IsServedAs, Keeps, IsSettled, NamesRoot}
use Rattle.imapd_core.specs.Runs.{formats, inbox_of, AtEachInstant, AtTheEnd, AfterEachCrash, FromRest}
use Rattle.imapd_core.proofs.Opened.{unopened_passed}
use Rattle.imapd_core.proofs.Served.{laws, KeepsSince, of_runs, of_some, keeps_since, opening_said, opening_bounded, opening_crash, restarts, rest_pending, names_none}
use Rattle.imapd_core.proofs.Settled.{quiet_settled}
use Rattle.imapd_core.proofs.server.imapd.Goals as goal

pub returns-in-Some-clause-says : goal.returns-in-Some-clause-says
returns-in-Some-clause-says g c =
    subst (λ words. AtEachInstant formats words c.args.moment (g.H.Files.history c.args.host.now) (g.H.Files.history c.serve_root.new.host) (Says formats)) (sym c.in-Some.ensures.some.0) c.serve_root.ensures.says

pub returns-in-Some-clause-served : goal.returns-in-Some-clause-served
returns-in-Some-clause-served g c was =
    subst (λ words. AtTheEnd formats words c.args.moment (g.H.Files.history c.args.host.now) (g.H.Files.history c.serve_root.new.host) (IsServedAs formats c.serve_root.result)) (sym c.in-Some.ensures.some.0) (c.serve_root.ensures.served was)

pub returns-in-Some-clause-crash : goal.returns-in-Some-clause-crash
returns-in-Some-clause-crash g c =
    subst (λ words. AfterEachCrash formats words c.args.moment (g.H.Files.history c.args.host.now) (g.H.Files.history c.serve_root.new.host) (Keeps formats)) (sym c.in-Some.ensures.some.0) c.serve_root.ensures.crash

pub returns-in-Some-clause-restart : goal.returns-in-Some-clause-restart
returns-in-Some-clause-restart g c = restarts (map string_bytes c.args.words.now) c.args.moment (g.H.Files.history c.args.host.now) (g.H.Files.history c.serve_root.new.host)

pub returns-in-Some-clause-settled : goal.returns-in-Some-clause-settled
returns-in-Some-clause-settled g c =
    subst (λ words. FromRest formats words c.args.moment (g.H.Files.history c.args.host.now) (IsSettled (g.H.Files.history c.args.host.now) (g.H.Files.history c.serve_root.new.host))) (sym c.in-Some.ensures.some.0) c.serve_root.ensures.settled

pub returns-in-Some-clause-words : goal.returns-in-Some-clause-words
returns-in-Some-clause-words g c = record {
  unread = λ none. absurd (false≢true (sym (none c.in-Some.root.now c.in-Some.ensures.some.0) ∙ c.in-Some.ensures.some.1));
  cause = λ is. names_none (map string_bytes c.args.words.now) c.in-Some.root.now (g.H.Files.history c.args.host.now) c.in-Some.ensures.some.0 (c.serve_root.ensures.words is);
  quiet = c.serve_root.ensures.quiet;
  served = λ has. record { root = c.in-Some.root.now; one = c.in-Some.ensures.some.0; is_root = c.in-Some.ensures.some.1; stands = c.serve_root.ensures.root has };
}

pub returns-in-None-clause-says : goal.returns-in-None-clause-says
returns-in-None-clause-says g c =
    let old = g.H.Files.history c.args.host.now in
    of_runs (map string_bytes c.args.words.now) c.args.moment old (λ run. (world : World) → Contains (worlds_since (instant old) old) world → Says formats run world)
    (λ root are tree now. opening_said root c.args.moment tree old old (unopened_passed formats laws root c.args.moment tree old old refl now))

pub returns-in-None-clause-crash : goal.returns-in-None-clause-crash
returns-in-None-clause-crash g c =
    let old = g.H.Files.history c.args.host.now in
    of_runs (map string_bytes c.args.words.now) c.args.moment old (λ run. IsAtRest run.start.disk → KeepsSince run old old)
    (λ root are tree now. keeps_since root c.args.moment tree old old (g.met.H.Files.sound c.args.host.now) now
    (opening_crash root c.args.moment tree old old (unopened_passed formats laws root c.args.moment tree old old refl now)))

pub returns-in-None-clause-restart : goal.returns-in-None-clause-restart
returns-in-None-clause-restart g c = restarts (map string_bytes c.args.words.now) c.args.moment (g.H.Files.history c.args.host.now) (g.H.Files.history c.args.host.now)

pub returns-in-None-clause-settled : goal.returns-in-None-clause-settled
returns-in-None-clause-settled g c =
    let old = g.H.Files.history c.args.host.now in
    of_runs (map string_bytes c.args.words.now) c.args.moment old (λ run. IsAtRest run.start.disk → IsSettled old old run)
    (λ root are tree now. rest_pending root c.args.moment tree old old (λ run is none. quiet_settled root old old run (ran_none (MayMake (inbox_of root)) old)))

pub returns-in-None-clause-short : goal.returns-in-None-clause-short
returns-in-None-clause-short g c =
    let old = g.H.Files.history c.args.host.now in
    of_some [] old (λ start. (world : World) → Contains (worlds_since (instant old) old) world → IsBounded start world)
    (λ tree now. opening_bounded [] c.args.moment tree old old (unopened_passed formats laws [] c.args.moment tree old old refl now))

pub returns-in-None-clause-words : goal.returns-in-None-clause-words
returns-in-None-clause-words g c = record {
  unread = λ none. refl;
  cause = λ is. now_all (λ w. NamesRoot (map string_bytes c.args.words.now) (w ∷ []) → ⊥) (λ w names. false≢true (sym (c.in-None.ensures.none names.root names.one) ∙ names.is_root)) (g.H.Files.history c.args.host.now);
  quiet = λ is. refl;
  served = λ has. absurd has;
}
