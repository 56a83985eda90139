-- Places in rows of m: place c * m + q is the q-th of row c.
use Rattle.std.specs.Prelude.{◌≡◌, refl, Bool, true, false, ℕ, zero, suc, ◌+◌, ◌*◌, ◌/◌, ◌%◌, ◌<◌}
use Rattle.std.proofs.Common.{sym, ap, ap₂, ◌∙◌, subst, add-zero, mod-eq_of_lt, zero-mul, arith}
use Rattle.std.proofs.Math.Nat.{mul-add-div_right, div-eq_of_lt, add-mul-mod_self_right}
use Rattle.vocabulary.specs.Test.{bit}
use Rattle.vocabulary.specs.Least.{least, some}
use Rattle.vocabulary.proofs.Least.{some_at, some_more, some_none}
use Rattle.vocabulary.specs.Count.{count}
use Rattle.vocabulary.proofs.Count.{count_zero, count_more, count_same, count_split}

pub row_div : (c m q : ℕ) → q < m → (c * m + q) / m ≡ c
row_div c m q l = mul-add-div_right (let g : 0 < m = omega arith in g) c q ∙ rw (div-eq_of_lt l) (add-zero c)

pub row_mod : (c m q : ℕ) → q < m → (c * m + q) % m ≡ q
row_mod c m q l =
    ap (λ (x : ℕ). x % m) (let g : c * m + q ≡ q + c * m = omega arith in g) ∙ add-mul-mod_self_right q c m ∙ mod-eq_of_lt l

-- at most one of m passes
pub count_once : (f : ℕ → Bool) (m : ℕ) → ((q r : ℕ) → q < r → r < m → f q ≡ true → f r ≡ true → ⊥) → count f 0 m ≡ bit (some f m)
count_once f zero h = count_zero f 0 ∙ ap bit (sym (some_none f))
count_once f (suc m) h =
    subst (λ (u : ℕ). count f 0 u ≡ bit (some f u)) (let g : m + 1 ≡ suc m = omega arith in g)
    (whole (count_once f m (λ q r a b. h q r a (omega arith))))
  where
    go : count f 0 m ≡ bit (some f m) → (a : Bool) → some f m ≡ a → (b : Bool) → f m ≡ b → count f 0 m + bit (f m) ≡ bit (some f (m + 1))
    go low true p true q = absurd (h (least f m) m (some_at f m p).0 (omega arith) (some_at f m p).1 q)
    go low true p false q = rw (low, some_more f m, p, q)
    go low false p true q = rw (low, some_more f m, p, q)
    go low false p false q = rw (low, some_more f m, p, q)

    whole : count f 0 m ≡ bit (some f m) → count f 0 (m + 1) ≡ bit (some f (m + 1))
    whole low =
        count_more f 0 m
        ∙ ap (λ (u : ℕ). count f 0 m + bit (f u)) (let g : 0 + m ≡ m = omega arith in g)
        ∙ go low (some f m) refl (f m) refl

-- a count over rows of m, from what each row counts
pub count_rows : (F G : ℕ → Bool) (m h : ℕ) → ((c : ℕ) → c < h → count (λ q. F (c * m + q)) 0 m ≡ bit (G c)) → count F 0 (h * m) ≡ count G 0 h
count_rows F G m zero r = rw zero-mul (count_zero F 0 ∙ sym (count_zero G 0))
count_rows F G m (suc h) r =
    ap (count F 0) (let g : suc h * m ≡ h * m + m = omega arith in g)
    ∙ count_split F 0 (h * m) m
    ∙ ap₂ ◌+◌ (count_rows F G m h (λ c l. r c (omega arith)))
    (count_same F (λ q. F (h * m + q)) (0 + h * m) 0 m (λ i l. ap F (let g : 0 + h * m + i ≡ h * m + (0 + i) = omega arith in g))
    ∙ r h (omega arith))
    ∙ sym
    (ap (count G 0) (let g : suc h ≡ h + 1 = omega arith in g)
    ∙ count_more G 0 h
    ∙ ap (λ (u : ℕ). count G 0 h + bit (G u)) (let g : 0 + h ≡ h = omega arith in g))
