use Rattle.std.proofs.Common.{◌≡◌, ◌≤◌, sym, ◌∙◌, ap, subst, length}
use Rattle.mail_types.specs.Drivers.{keeps_of}
use Rattle.mail_types.specs.Lists.{RiseBelow, places_of}
use Rattle.store_trait.specs.Changes.{IsNextWords}
use Rattle.imap_session.specs.Select.{told_from}
use Rattle.imap_session.proofs.Places.{told_rise}
use Rattle.imap_session.proofs.Selecting.{next_same}
use Rattle.imap_session.proofs.commands.select.old_from_now.Goals as goal

pub returns-clause-can : goal.returns-clause-can
returns-clause-can g c =
    let v = g.S.Store.view c.args.store.now in
    let words : c.in_ok-words.words ≡ v.summary.words = c.in_ok-words.ensures ∙ c.words.ensures.are in (
      subst (λ l. IsNextWords (keeps_of v.driver) v.summary.words l) (sym words) (next_same (keeps_of v.driver) v.summary.words (subst (λ l. length l ≤ (keeps_of v.driver).words) c.words.ensures.are c.words.ensures.few)),
      subst (λ changes. RiseBelow 0 (length v.summary.infos) (places_of changes)) (sym (c.of.ensures ∙ c.in_ok-changes.ensures ∙ ap (told_from 0) (c.as_slice.ensures.value ∙ c.in_ok-infos.ensures.are))) (told_rise v.summary.infos),
    )
