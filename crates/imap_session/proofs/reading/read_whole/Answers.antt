use Rattle.std.proofs.Common.{◌∙◌, sym, ap, if◌then◌else◌}
use Rattle.std.specs.Vec.{vec_len}
use Rattle.store_trait.specs.Views.{size_in}
use Rattle.imap_session.proofs.Readings.{whole_text}
use Rattle.imap_session.proofs.reading.read_whole.Goals as goal

pub returns-clause-gives : goal.returns-clause-gives
returns-clause-gives g c =
    whole_text g.S.Store.forms (g.S.Store.view c.args.store.now) c.args.place c.resize.new.self.len _ c.read_text.new.buf _ _ _ (g.met.S.Store.is_view c.args.store.now)
    (c.resize.ensures.len ∙ ap (λ b. if b then c.info-size.result.size else vec_len c.args.buf.now) c.if-is_err.ensures.negation ∙ sym (ap size_in c.info-size.ensures)) (c.read_text.auto.buf ∙ c.as_mut_slice.ensures.len) c.in_ok-read_text.ensures.told c.in_ok-read_text.ensures.gives
