-- Two sets that agree on what counts are written alike: the same answer, and the same bytes in the buffer.
use Rattle.std.specs.Prelude.{◌≡◌, refl, eqb, length, Result, Ok, Err}
use Rattle.std.proofs.Math.Path.{ap, ap₂}
use Rattle.std.proofs.Common.{◌∙◌}
use Rattle.std.proofs.Math.Bool.{Bool, not}
use mathlib.Core.List.{List, [], ◌∷◌, ◌++◌}
use Prim.Native.Nat.{ℕ, ◌+◌, ◌*◌, ◌<◌}
use native.Mathlib.Omega.{arith}
use Rattle.std.proofs.Math.Dec.{ltb}
use Rattle.vocabulary.specs.First.{first_of}
use Rattle.vocabulary.proofs.First.{first_same}
use Rattle.vocabulary.specs.Least.{least, some}
use Rattle.vocabulary.specs.Table.{join}
use Rattle.vocabulary.proofs.Lists.{join_same}
use Rattle.vocabulary.proofs.Total.{total_up}
use Rattle.kinds.specs.Tasks.{Set, pair_count, pairs_before, pairs_in}
use Rattle.kinds.proofs.PatternWalk.{before_more}
use Rattle.kinds.proofs.WhatCounts.{Agree, before_agree, cycle_agree, sound_agree}
use Rattle.slots.specs.High.{high}
use Rattle.writer.specs.declared.WriteError.{WriteError}
use Rattle.writer.specs.declared.WriteError.TheVariants as writeError
use Rattle.writer.specs.Format.{task_numbers, pair_numbers, pattern_numbers, head_numbers, head_bytes, bytes_of}
use Rattle.writer.proofs.Turns.{two_same, four_same}
use Rattle.writer.specs.Writing.{rules, written_of, write_for}

-- equal numbers make equal lists
three_same : {a b c x y z : ℕ} → a ≡ x → b ≡ y → c ≡ z → ◌≡◌ {A = List ℕ} (a ∷ b ∷ c ∷ []) (x ∷ y ∷ z ∷ [])
three_same p q r = rw (p, q, r)

module _ (s t : Set) (g : Agree s t) where
  task_same : (i : ℕ) → i < s.tasks.count → task_numbers s.tasks i ≡ task_numbers t.tasks i
  task_same i l =
      four_same (g.attributes (4 * i) (omega arith)) (g.attributes (4 * i + 1) (omega arith)) (g.attributes (4 * i + 2) (omega arith))
      (g.attributes (4 * i + 3) (omega arith))

  module _ (k : ℕ) (l : k < s.patterns.count) where
    count_same : pair_count s.patterns k ≡ pair_count t.patterns k
    count_same = g.headings (3 * k + 2) (omega arith)

    -- the pairs of pattern k lie below the count of all
    below : (q : ℕ) → q < pair_count s.patterns k → pairs_before s.patterns k + q < pairs_before s.patterns s.patterns.count
    unfolding pairs_in
    below q h =
        omega (
          arith,
          before_more s.patterns k,
          total_up (λ j. pair_count s.patterns j) (k + 1) s.patterns.count (omega arith),
        )

    pair_same : (q : ℕ) → q < pair_count s.patterns k → pair_numbers s.patterns k q ≡ pair_numbers t.patterns k q
    pair_same q h =
        let b = below q h in
        rw (← before_agree s t g k (omega arith))
        (two_same (g.pairs (2 * (pairs_before s.patterns k + q)) (omega arith)) (g.pairs (2 * (pairs_before s.patterns k + q) + 1) (omega arith)))

    pattern_same : pattern_numbers s.patterns k ≡ pattern_numbers t.patterns k
    pattern_same =
        ap₂ ◌++◌ (three_same (g.headings (3 * k) (omega arith)) (g.headings (3 * k + 1) (omega arith)) count_same)
        (join_same (pair_numbers s.patterns k) (pair_numbers t.patterns k) (pair_count s.patterns k) pair_same
        ∙ ap (join (pair_numbers t.patterns k)) count_same)

  same_numbers : head_numbers s ≡ head_numbers t
  unfolding head_numbers
  same_numbers =
      ap₂ ◌++◌
      (ap₂ ◌++◌
      (ap₂ ◌++◌ (three_same g.edition g.task_count g.processors)
      (join_same (task_numbers s.tasks) (task_numbers t.tasks) s.tasks.count task_same ∙ ap (join (task_numbers t.tasks)) g.task_count))
      (ap (λ (n : ℕ). n ∷ []) g.pattern_count))
      (join_same (pattern_numbers s.patterns) (pattern_numbers t.patterns) s.patterns.count pattern_same
      ∙ ap (join (pattern_numbers t.patterns)) g.pattern_count)

  -- ==== Sets that agree on what counts have the same file,
  pub same_file : (slots : List ℕ) → bytes_of s slots ≡ bytes_of t slots
  unfolding bytes_of head_bytes
  same_file slots = rw same_numbers

  same_answer : (slots : List ℕ) (room : ℕ) → written_of s slots room ≡ written_of t slots room
  unfolding written_of rules
  same_answer slots room =
      let top : ℕ → ℕ = λ n. least (high slots n) (length slots) in
      let any : ℕ → Bool = λ n. some (high slots n) (length slots) in
      let long : ℕ → ℕ → Bool = λ m h. not (eqb (length slots) (m * h)) in
      let short : List ℕ → Bool = λ f. ltb room (length f) in
      let last : List ℕ → Result ℕ WriteError = λ f. Ok (length f) in
      ap (first_of (rules s slots room)) (ap last (same_file slots))
      ∙ first_same _ _ _ _ _ (ap not (sound_agree s t g)) (λ e. refl)
      (λ e. first_same _ _ _ _ _ (ap₂ long g.processors (cycle_agree s t g)) (λ a. refl)
      (λ a. first_same _ _ _ _ _ (ap any g.task_count) (λ b. ap (λ (n : ℕ). Err (writeError.BadSlot (top n))) g.task_count)
      (λ b. first_same _ _ _ _ _ (ap short (same_file slots)) (λ c. refl) (λ c. refl))))

  -- ==== and are written alike.
  pub same_written : (slots out : List ℕ) → write_for s slots out ≡ write_for t slots out
  unfolding write_for
  same_written slots out = rw (same_answer slots (length out), same_file slots)
