-- Units that change no file.
use Rattle.std.proofs.Common.{ℕ, List, [], ◌∷◌, ◌++◌, ◌≡◌, refl, sym, ◌∙◌, ap, subst}
use Rattle.std.proofs.lemmas.List.{append-nil}
use Rattle.file_model.specs.Disk.{Disk, MayLeave}
use Rattle.file_model.specs.Histories.{History, Now, Passed}
use Rattle.file_model.specs.Arrived.{Arrived, Begins, IsSaying, HasSaid}
use Rattle.file_model.proofs.Passes.{passed_now, arrived_with}
use Rattle.file_model.proofs.Runs.{now_both}
use Rattle.session_loop.specs.Machine.{Answered, Protocol, IsKept, replies}
use Rattle.session_loop.specs.Saying.{AllSaid}
use Rattle.session_loop.specs.Instants.{Answering, HasAnswered}
use Rattle.session_loop.proofs.Saying.{first_part}

one_reply : {S U : Type 0} (p : Protocol S U) (state : S) (unit : U) (reply : List ℕ) → AllSaid p.says (p.step state unit).reply reply → AllSaid p.says (replies p.step state (unit ∷ [])) reply
one_reply p state unit reply is = subst (λ lines. AllSaid p.says lines reply) (sym (append-nil (p.step state unit).reply)) is

-- the instants of its reply
pub quiet_passed : {S U : Type 0} (p : Protocol S U) (state : S) (unit : U) (reply : List ℕ) (old new : History)
    → IsKept p
    → ((disk : Disk) → p.alike state disk → p.alike (p.step state unit).next disk)
    → Now old (λ w. AllSaid p.says (p.step state unit).reply reply) → Passed (IsSaying reply) old new → Passed (Answering p state (unit ∷ [])) old new
quiet_passed p state unit reply old new law same_files is run =
    passed_now (λ w. AllSaid p.says (p.step state unit).reply reply) (IsSaying reply) (Answering p state (unit ∷ [])) (λ a b here saying. record {
      heard = saying.heard;
      ended = saying.ended;
      turns = saying.turns;
      part = saying.part;
      is_said = saying.is_said;
      is_part = first_part p.says (replies p.step state (unit ∷ [])) saying.part reply (one_reply p state unit reply here) saying.is_part;
      crash = λ same image left. record {
        done = unit ∷ [];
        are_done = record { rest = []; is_whole = refl };
        are_said = first_part p.says (replies p.step state (unit ∷ [])) saying.part reply (one_reply p state unit reply here) saying.is_part;
        agreed = law a.disk (p.step state unit).next (same_files a.disk same) image (subst (λ d. MayLeave d image) saying.disk left);
      };
    }) old new is run

-- and its end
pub quiet_answered : {S U : Type 0} (p : Protocol S U) (before stands : Disk → S → Type 0) (state : S) (unit : U) (reply : List ℕ) (old new : History)
    → ((disk : Disk) → p.alike state disk → p.alike (p.step state unit).next disk) → ((disk : Disk) → before disk state → stands disk (p.step state unit).next)
    → Now old (λ w. before w.disk state) → Now old (λ w. AllSaid p.says (p.step state unit).reply reply) → Arrived (HasSaid reply) old new → Arrived (HasAnswered p stands state (unit ∷ [])) old new
quiet_answered p before stands state unit reply old new same_files goes_on now is said =
    arrived_with (λ w. before w.disk state × AllSaid p.says (p.step state unit).reply reply) (HasSaid reply) (HasAnswered p stands state (unit ∷ [])) (λ a b here said. record {
      heard = said.heard;
      ended = said.ended;
      turns = said.turns;
      bytes = reply;
      are_said = one_reply p state unit reply here.1;
      said = said.said;
      is_state = subst (λ d. stands d (p.step state unit).next) (sym said.disk) (goes_on a.disk here.0);
      still_alike = λ same. subst (p.alike (p.step state unit).next) (sym said.disk) (same_files a.disk same);
    }) old new (now_both (λ w. before w.disk state) (λ w. AllSaid p.says (p.step state unit).reply reply) old now is) said
