-- Laws of the definitions in specs/Window.antt.
use Rattle.std.specs.Prelude.{◌≡◌, refl, Bool, true, false, ◌&&◌, ◌⊎◌, ℕ, ◌+◌, ◌-◌, ◌*◌, ◌/◌, ◌%◌, ◌<◌, ◌≤◌, leb}
use Rattle.std.proofs.Common.{sym, ap, ap₂, ◌∙◌, inl, inr, ⊎_elim, mod-eq_of_lt, div-add-mod', one-mul, arith, eq-eqb, eqb-true, ltb-true, lt-ltb, leb-true, le-leb}
use Rattle.std.proofs.Math.Nat.{add-mod_right}
use Rattle.std.proofs.lemmas.Bool.{lt-leb}
use Rattle.vocabulary.proofs.Test.{fails, both, lt_or_le, and_true}
use Rattle.vocabulary.specs.Count.{count}
use Rattle.vocabulary.proofs.Count.{count_same, count_split, count_none}
use Rattle.vocabulary.proofs.Rows.{row_div, row_mod}
use Rattle.kinds.specs.Tasks.{Tasks, period, offset, deadline}
use Rattle.kinds.specs.Jobs.{release, due, in_window}
use Rattle.kinds.specs.Plans.{Plan, shown}
use Rattle.kinds.specs.Valid.{TickOf}
use Rattle.laws.proofs.Repeat.{shown_again, runs_awake, runs_shown}
use Rattle.laws.specs.Window.{falls, time_of}

-- ---- ticks of a job
pub tick_at_lem : (u : Tasks) (p : Plan) (i k x : ℕ) → release u i k ≤ x → x < release u i k + deadline u i → shown p i x ≡ true → TickOf u p i k x
unfolding in_window due release
tick_at_lem u p i k x a b e =
    record {
      ran = runs_awake u p i x (omega arith) ∙ e;
      within = rw (le-leb (offset u i + k * period u i) x a) (lt-ltb x (offset u i + k * period u i + deadline u i) b);
    }

pub tick_is : (u : Tasks) (p : Plan) (i k x : ℕ) → TickOf u p i k x → (release u i k ≤ x) × (x < release u i k + deadline u i) × (shown p i x ≡ true)
unfolding in_window due
tick_is u p i k x t =
    let w = both {a = leb (release u i k) x} t.within in
    (leb-true _ _ w.0, ltb-true _ _ w.1, (runs_shown u p i x t.ran).1)

pub falls_is : (t d j y : ℕ) → 0 < t → d ≤ t → falls t d j y ≡ true → (j * t ≤ y) × (y < j * t + d)
falls_is t d j y pt l e =
    let w = both e in
    let q : y / t ≡ j = eqb-true _ _ w.0 in
    let g : y % t < d = ltb-true _ _ w.1 in
    let z : y / t * t ≡ j * t = ap (λ (u : ℕ). u * t) q in
    (omega (arith, div-add-mod' y t), omega (arith, div-add-mod' y t))

pub is_falling : (t d j y : ℕ) → 0 < t → d ≤ t → y < d → falls t d j (j * t + y) ≡ true
is_falling t d j y pt l h =
    rw (row_div j t y (omega arith), row_mod j t y (omega arith), lt-ltb y d h, eq-eqb j j refl)

-- in h ticks from the first release on, what passes in job j's window is what passes in the window alone
pub window_count : (f : ℕ → Bool) (o t d j h : ℕ) → 0 < t → d ≤ t → j * t + t ≤ h → count (λ x. f x && falls t d j (x - o)) o h ≡ count f (o + j * t) d
window_count f o t d j h pt l room =
    ap (count g o) (let z : h ≡ j * t + (d + (h - j * t - d)) = omega arith in z)
    ∙ count_split g o (j * t) (d + (h - j * t - d))
    ∙ ap₂ ◌+◌ (count_none g o (j * t) before)
    (count_split g (o + j * t) d (h - j * t - d)
    ∙ ap₂ ◌+◌ (count_same g f (o + j * t) (o + j * t) d within) (count_none g (o + j * t + d) (h - j * t - d) after))
    ∙ (let z : 0 + (count f (o + j * t) d + 0) ≡ count f (o + j * t) d = omega arith in z)
  where
    g : ℕ → Bool
    g x = f x && falls t d j (x - o)

    none_at : (x : ℕ) → (falls t d j (x - o) ≡ true → ⊥) → g x ≡ false
    none_at x n = fails (λ e. n (both {a = f x} e).1)

    before : (i : ℕ) → i < j * t → g (o + i) ≡ false
    before i k = none_at (o + i) (λ e. omega (arith, (falls_is t d j (o + i - o) pt l e).0))

    after : (i : ℕ) → i < h - j * t - d → g (o + j * t + d + i) ≡ false
    after i k = none_at (o + j * t + d + i) (λ e. omega (arith, (falls_is t d j (o + j * t + d + i - o) pt l e).1))

    within : (i : ℕ) → i < d → g (o + j * t + i) ≡ f (o + j * t + i)
    within i k =
        ap (λ (b : Bool). f (o + j * t + i) && b)
        (ap (falls t d j) (let z : o + j * t + i - o ≡ j * t + i = omega arith in z) ∙ is_falling t d j i pt l k)
        ∙ and_true (f (o + j * t + i))

pub time_awake : (h o c : ℕ) → o ≤ c → time_of h o c ≡ c
unfolding time_of
time_awake h o c l = rw (le-leb o c l)

pub time_asleep : (h o c : ℕ) → c < o → time_of h o c ≡ c + h
unfolding time_of
time_asleep h o c l = rw (lt-leb o c l)

pub time_from : (h o c : ℕ) → o ≤ h → c < h → (o ≤ time_of h o c) × (time_of h o c < o + h)
time_from h o c l k =
    ⊎_elim (λ q. rw (time_asleep h o c q) (omega arith, omega arith)) (λ q. rw (time_awake h o c q) (q, omega arith)) (lt_or_le c o)

pub shown_time : (p : Plan) (i o c : ℕ) → shown p i (time_of p.cycle o c) ≡ shown p i c
shown_time p i o c =
    ⊎_elim
    (λ q. ap (shown p i) (time_asleep p.cycle o c q ∙ ap (λ (u : ℕ). c + u) (sym (one-mul p.cycle))) ∙ shown_again p i c 1)
    (λ q. ap (shown p i) (time_awake p.cycle o c q)) (lt_or_le c o)

-- the time of a time's slot tick
pub time_mod : (h o x : ℕ) → 0 < h → o ≤ h → o ≤ x → x < o + h → time_of h o (x % h) ≡ x
time_mod h o x ph l a b = go (lt_or_le x h)
  where
    go : (x < h) ⊎ (h ≤ x) → time_of h o (x % h) ≡ x
    go (inl q) = rw (mod-eq_of_lt q) (time_awake h o x a)
    go (inr q) =
        let e : x % h ≡ x - h =
        ap (λ (u : ℕ). u % h) (let z : x ≡ x - h + h = omega arith in z) ∙ add-mod_right (x - h) h ∙ mod-eq_of_lt
        (let z : x - h < h = omega arith in z) in
        rw e (time_asleep h o (x - h) (omega arith) ∙ omega arith)

-- a cycle's ticks, from tick 0 or from o on
pub turned : (f g : ℕ → Bool) (h o : ℕ) → o ≤ h → ((c : ℕ) → c < h → f c ≡ g (time_of h o c)) → count f 0 h ≡ count g o h
turned f g h o l e =
    ap (count f 0) (let z : h ≡ o + (h - o) = omega arith in z)
    ∙ count_split f 0 o (h - o)
    ∙ ap₂ ◌+◌ (count_same f g 0 (o + (h - o)) o first) (count_same f g (0 + o) o (h - o) rest)
    ∙ (let z : count g (o + (h - o)) o + count g o (h - o) ≡ count g o (h - o) + count g (o + (h - o)) o = omega arith in z)
    ∙ sym (count_split g o (h - o) o)
    ∙ ap (count g o) (let z : h - o + o ≡ h = omega arith in z)
  where
    first : (i : ℕ) → i < o → f (0 + i) ≡ g (o + (h - o) + i)
    first i k = ap f (let z : 0 + i ≡ i = omega arith in z) ∙ e i (omega arith) ∙ ap g (time_asleep h o i k ∙ omega arith)

    rest : (i : ℕ) → i < h - o → f (0 + o + i) ≡ g (o + i)
    rest i k = ap f (let z : 0 + o + i ≡ o + i = omega arith in z) ∙ e (o + i) (omega arith) ∙ ap g (time_awake h o (o + i) (omega arith))
