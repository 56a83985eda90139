-- What the writer answers for every input, and what it leaves in the buffer.
use Rattle.std.specs.Prelude.{not, List, [], ◌∷◌, ◌++◌, ℕ, ◌*◌, eqb, ltb, length, drop, Result, Ok, Err}
use Rattle.vocabulary.specs.Least.{least, some}
use Rattle.vocabulary.specs.First.{Rule, rule, first_of}
use Rattle.kinds.specs.Tasks.{Set, view}
use Rattle.kinds.specs.Cycle.{cycle}
use Rattle.kinds.specs.Sound.{sound}
use Rattle.slots.specs.High.{high}
use Rattle.reader.specs.Files.{set_taken}
use Rattle.writer.specs.declared.WriteError.{WriteError}
use Rattle.writer.specs.declared.WriteError.TheVariants as writeError
use Rattle.writer.specs.Format.{bytes_of}

-- Rule R15.2: the refusals in their order, for a buffer of so many bytes
unfoldable pub rules : Set → List ℕ → ℕ → List (Rule (Result ℕ WriteError))
rules s slots room =
    rule 10 (not (sound s)) (Err writeError.BadSet)
    ∷ rule 11 (not (eqb (length slots) (s.processors * cycle s.tasks))) (Err writeError.WrongLength)
    ∷ rule 12 (some (high slots s.tasks.count) (length slots)) (Err (writeError.BadSlot (least (high slots s.tasks.count) (length slots))))
    ∷ rule 18 (ltb room (length (bytes_of s slots))) (Err writeError.TooShort)
    ∷ []

unfoldable pub written_of : Set → List ℕ → ℕ → Result ℕ WriteError
written_of s slots room = first_of (rules s slots room) (Ok (length (bytes_of s slots)))

-- Rule R15.1: a file is written from the buffer's start on, and bytes after it stay; a refusal writes nothing
unfoldable pub left_in : Result ℕ WriteError → List ℕ → List ℕ → List ℕ
left_in (Ok n) file out = file ++ drop n out
left_in (Err e) file out = out

-- what a call leaves: the answer, and the buffer
pub record WriteLeft : Type 0 where
  pub answer : Result ℕ WriteError
  pub out : List ℕ

abbrev pub write_leaves : Result ℕ WriteError → List ℕ → WriteLeft
write_leaves w out = record { answer = w; out = out }

unfoldable pub write_for : Set → List ℕ → List ℕ → WriteLeft
write_for s slots out = let w : Result ℕ WriteError = written_of s slots (length out) in write_leaves w (left_in w (bytes_of s slots) out)

-- ---- for C, which passes tasks and m as the bytes of a head (rules R12.1, R12.6); bytes that are not taken stand for the empty set, which breaks rule 10
unfoldable pub written_head : List ℕ → List ℕ → ℕ → Result ℕ WriteError
written_head tasks slots room = written_of (view (set_taken tasks)) slots room

unfoldable pub write_head_for : List ℕ → List ℕ → List ℕ → WriteLeft
write_head_for tasks slots out = write_for (view (set_taken tasks)) slots out
