-- Laws of the definitions in specs/Places.antt.
use Rattle.std.specs.Prelude.{◌≡◌, List, [], ℕ, length, drop, Ok, Err}
use Rattle.std.proofs.Common.{ap, ◌∙◌}
use Rattle.std.proofs.Math.Seq.{drop-length}
use Rattle.numbers.specs.declared.Refusal.{Refusal}
use Rattle.heads.specs.Tables.{Outcome}
use Rattle.reader.specs.Files.{outcome_read}
use Rattle.place.specs.Places.{first_of, slots_of}

pub slots_read : (s : List ℕ) (p : ℕ) → outcome_read s ≡ Ok p → slots_of s ≡ drop p s
unfolding first_of
slots_read s p e = ap (λ (o : Outcome). drop (first_of o (length s)) s) e

pub slots_refused : (s : List ℕ) (r : Refusal) → outcome_read s ≡ Err r → slots_of s ≡ []
unfolding first_of
slots_refused s r e = ap (λ (o : Outcome). drop (first_of o (length s)) s) e ∙ drop-length s
