-- A state's 21 bytes give the state back.
use mathlib.Core.Path.{◌≡◌, refl, sym, ap, ◌∙◌}
use mathlib.Core.Bool.{Bool, true, false}
use mathlib.Core.List.{List, [], ◌∷◌, ◌++◌, append_assoc, append-nil}
use Prim.Native.Nat.{ℕ, zero, suc, ◌+◌, ◌*◌, ◌/◌, ◌%◌, ◌<◌, ◌≤◌, ◌^◌}
use native.Mathlib.Nat.{pow-succ', lt_of_lt_of_le}
use native.Mathlib.Omega.{arith}
use lib.Dec.{eqb, leb}
use lib.ListN.{get_or, length, length-append}
use lib.Pow.{pow_mono}
use lib.Seq.{get_or_at, append_snoc}
use Rattle.vocabulary.specs.Test.{bit}
use Rattle.kinds.specs.Tasks.{Set}
use Rattle.kinds.specs.Cycle.{cycle}
use Rattle.kinds.proofs.SoundFacts.{Sound}
use Rattle.dispatcher.specs.declared.State.{State}
use Rattle.dispatcher.specs.Refusals.{impossible}
use Rattle.dispatcher.proofs.StepFacts.{possible_low}
use Rattle.dispatcher.specs.Bytes.{bytes, number, bytes_of, unclear, state_of}

pub length_bytes : (n x : ℕ) → length (bytes n x) ≡ n
unfolding bytes
length_bytes zero x = refl
length_bytes (suc n) x = ap suc (length_bytes n (x / 256))

-- n bytes that stand at a place make the number again
pub number_bytes_lem : (n x at : ℕ) (before after : List ℕ) → length before ≡ at → x < 256 ^ n → number (before ++ (bytes n x ++ after)) at n ≡ x
unfolding number bytes
number_bytes_lem zero x at before after e l = omega arith
number_bytes_lem (suc n) x at before after e l =
    let b : ℕ = x % 256 in
    let rest : List ℕ = bytes n (x / 256) ++ after in
    let low : x / 256 < 256 ^ n = omega (arith, pow-succ' 256 n) in
    let long : length (before ++ (b ∷ [])) ≡ at + 1 = length-append before (b ∷ []) ∙ ap (λ (k : ℕ). k + 1) e in
    let here : get_or (before ++ (b ∷ rest)) at 0 ≡ b = get_or_at before b rest 0 at e in
    let there : number (before ++ (b ∷ rest)) (at + 1) n ≡ x / 256
    = ap (λ (s : List ℕ). number s (at + 1) n) (sym (append_snoc before b rest)) ∙ number_bytes_lem n (x / 256) (at + 1) (before ++ (b ∷ [])) after long low in
    omega (arith, ap (λ (k : ℕ). 256 * k) there)

-- ---- the state
module _ (s : State) where
  abbrev head : List ℕ
  head = bytes 4 s.tick ++ bytes 1 (bit s.first)

  abbrev marks : List ℕ
  marks = bytes 8 s.done ++ bytes 8 s.ran

  -- what stands before the done marks, and before the ran marks
  split_done : bytes_of s ≡ head ++ marks
  unfolding bytes_of
  split_done = sym (append_assoc (bytes 4 s.tick) (bytes 1 (bit s.first)) marks)

  split_ran : bytes_of s ≡ head ++ bytes 8 s.done ++ (bytes 8 s.ran ++ [])
  split_ran =
      split_done
      ∙ sym (append_assoc head (bytes 8 s.done) (bytes 8 s.ran))
      ∙ ap (λ (l : List ℕ). head ++ bytes 8 s.done ++ l) (sym (append-nil (bytes 8 s.ran)))

  long_head : length head ≡ 5
  long_head = length-append (bytes 4 s.tick) (bytes 1 (bit s.first)) ∙ omega (arith, length_bytes 4 s.tick, length_bytes 1 (bit s.first))

  long_done : length (head ++ bytes 8 s.done) ≡ 13
  long_done = length-append head (bytes 8 s.done) ∙ omega (arith, long_head, length_bytes 8 s.done)

  pub length_state : length (bytes_of s) ≡ 21
  length_state =
      ap length split_done
      ∙ length-append head marks
      ∙ omega (arith, long_head, length-append (bytes 8 s.done) (bytes 8 s.ran), length_bytes 8 s.done, length_bytes 8 s.ran)

  -- the byte of the first cycle is 1 during it, 0 after
  pub first_byte : get_or (bytes_of s) 4 0 ≡ bit s.first
  unfolding bytes_of bytes
  first_byte = small s.first
    where
      small : (b : Bool) → bit b % 256 ≡ bit b
      small true = refl
      small false = refl

  pub clear_state : unclear (bytes_of s) ≡ false
  unfolding unclear
  clear_state = rw first_byte (low s.first)
    where
      low : (b : Bool) → leb 2 (bit b) ≡ false
      low true = refl
      low false = refl

  tick_back : s.tick < 2 ^ 32 → number (bytes_of s) 0 4 ≡ s.tick
  unfolding bytes_of
  tick_back l = number_bytes_lem 4 s.tick 0 [] (bytes 1 (bit s.first) ++ marks) refl l

  first_back : eqb (get_or (bytes_of s) 4 0) 1 ≡ s.first
  first_back = rw first_byte (back s.first)
    where
      back : (b : Bool) → eqb (bit b) 1 ≡ b
      back true = refl
      back false = refl

  done_back : s.done < 2 ^ 64 → number (bytes_of s) 5 8 ≡ s.done
  done_back l = rw split_done (number_bytes_lem 8 s.done 5 head (bytes 8 s.ran) long_head l)

  ran_back : s.ran < 2 ^ 64 → number (bytes_of s) 13 8 ≡ s.ran
  ran_back l = rw split_ran (number_bytes_lem 8 s.ran 13 (head ++ bytes 8 s.done) [] long_done l)

  -- ==== The 21 bytes of a state give the state back, where the tick fits 4 bytes and the marks 8.
  pub round_trip : s.tick < 2 ^ 32 → s.done < 2 ^ 64 → s.ran < 2 ^ 64 → state_of (bytes_of s) ≡ s
  unfolding state_of
  round_trip t d r = rw (tick_back t, first_back, done_back d, ran_back r)

-- So do those of every state that is possible with a sound set: H is at most 6,000, and there are at most 64 tasks.
pub possible_round_trip : (s : Set) → Sound s → (state : State) → impossible s.tasks (cycle s.tasks) state ≡ false → state_of (bytes_of state) ≡ state
possible_round_trip s f state e =
    let w = possible_low s.tasks (cycle s.tasks) state e in
    let t : state.tick < 2 ^ 32 = omega (arith, w.0, f.low_cycle) in
    let m : 2 ^ s.tasks.count ≤ 2 ^ 64 = pow_mono f.few_tasks in
    round_trip state t (lt_of_lt_of_le w.1 m) (lt_of_lt_of_le w.2 m)
