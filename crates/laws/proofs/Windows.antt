-- A job's window, and that it comes again after each cycle.
use Rattle.std.specs.Prelude.{◌≡◌, true, ◌&&◌, ◌⊎◌, ℕ, ◌+◌, ◌*◌, ◌%◌, ◌/◌, ◌≤◌, ◌<◌, leb, ltb}
use Rattle.std.proofs.Common.{sym, ap₂, ◌∙◌, inl, inr, arith, le-leb, leb-true, lt-ltb, le-ltb, ltb-true}
use Rattle.std.specs.Int.{◌∣◌}
use Rattle.std.proofs.lemmas.Bool.{lt-leb}
use Rattle.vocabulary.proofs.Test.{both, lt_or_le}
use Rattle.kinds.specs.Tasks.{Tasks, period, deadline}
use Rattle.kinds.specs.Cycle.{cycle, jobs_of}
use Rattle.kinds.specs.Jobs.{release, due, in_window}
use Rattle.laws.proofs.Repeat.{release_again}

-- ---- comparisons of times that are put off alike
pub leb_shift : (x y x' y' c : ℕ) → x ≡ x' + c → y ≡ y' + c → leb x y ≡ leb x' y'
leb_shift x y x' y' c e f = go (lt_or_le y' x')
  where
    go : (y' < x') ⊎ (x' ≤ y') → leb x y ≡ leb x' y'
    go (inl l) = lt-leb x y (omega arith) ∙ sym (lt-leb x' y' l)
    go (inr l) = le-leb x y (omega arith) ∙ sym (le-leb x' y' l)

pub ltb_shift : (x y x' y' c : ℕ) → x ≡ x' + c → y ≡ y' + c → ltb x y ≡ ltb x' y'
ltb_shift x y x' y' c e f = go (lt_or_le x' y')
  where
    go : (x' < y') ⊎ (y' ≤ x') → ltb x y ≡ ltb x' y'
    go (inl l) = lt-ltb x y (omega arith) ∙ sym (lt-ltb x' y' l)
    go (inr l) = le-ltb x y (omega arith) ∙ sym (le-ltb x' y' l)

-- ---- windows
pub window_yes : (u : Tasks) (i k d : ℕ) → d < deadline u i → in_window u i k (release u i k + d) ≡ true
unfolding in_window due
window_yes u i k d l =
    let r : ℕ = release u i k in
    rw (le-leb r (r + d) (omega arith)) (lt-ltb (r + d) (r + deadline u i) (omega arith))

pub window_facts : (u : Tasks) (i k t : ℕ) → in_window u i k t ≡ true → (release u i k ≤ t) × (t < release u i k + deadline u i)
unfolding in_window due
window_facts u i k t e =
    let r : ℕ = release u i k in
    let a = both {a = leb r t} e in
    (leb-true r t a.0, ltb-true t (r + deadline u i) a.1)

-- job k's window, from that of the job of the first cycle that it repeats
pub window_again : (u : Tasks) (i k t : ℕ) → period u i ∣ cycle u → in_window u i k (t + k / jobs_of u i * cycle u) ≡ in_window u i (k % jobs_of u i) t
unfolding in_window due
window_again u i k t d =
    let n : ℕ = jobs_of u i in
    let c : ℕ = k / n * cycle u in
    let r : ℕ = release u i (k % n) in
    let e : release u i k ≡ r + c = release_again u i k d in
    ap₂ ◌&&◌ (leb_shift (release u i k) (t + c) r t c e (omega arith))
    (ltb_shift (t + c) (release u i k + deadline u i) t (r + deadline u i) c (omega arith) (omega arith))
