-- Laws of the definitions in specs/Lowest.antt.
use Rattle.std.specs.Prelude.{◌≡◌, Bool, true, false, ◌↔◌, ℕ, ◌≤◌, ◌<◌}
use Rattle.std.proofs.Common.{sym, ◌∙◌, ⊎_elim, arith}
use Rattle.vocabulary.proofs.Test.{clash, fails, lt_or_le}
use Rattle.vocabulary.specs.Least.{least, some}
use Rattle.vocabulary.proofs.Least.{least_is, least_only, some_yes, some_not, some_at, none}
use Rattle.vocabulary.specs.Lowest.{Lowest, Lowest2, Lowest3, Search, Search2, Search3}

-- ---- one number, where a test and a property agree below n
module _ (f : ℕ → Bool) (P : ℕ → Type 0) (n : ℕ) (same : (x : ℕ) → x < n → (f x ≡ true) ↔ P x) where
  pub least_lowest : least f n < n → Lowest P n (least f n)
  least_lowest l =
      let m = least_is f n in
      record { low = l; here = (same (least f n) l).0 (m.found l); lower = λ y h p. clash ((same y (omega arith)).1 p) (m.before y h) }

  pub lowest_is : (x : ℕ) → Lowest P n x → x ≡ least f n
  lowest_is x w =
      least_only f n x
      (record {
        within = omega (arith, w.low);
        before = λ y h. fails (λ e. w.lower y h ((same y (omega (arith, w.low))).0 e));
        found = λ h. (same x h).1 w.here;
      })

  -- there is none
  pub least_none : n ≤ least f n → (x : ℕ) → x < n → P x → ⊥
  least_none h x l p = clash ((same x l).1 p) ((least_is f n).before x (omega arith))

  pub none_least : ((x : ℕ) → x < n → P x → ⊥) → n ≤ least f n
  none_least h =
      ⊎_elim (λ l. absurd (h (least f n) l ((same (least f n) l).0 ((least_is f n).found l)))) (λ l. l) (lt_or_le (least f n) n)

module _ {P : ℕ → Type 0} {f : ℕ → Bool} (t : Search P f) (n : ℕ) where
  pub none_holds : some f n ≡ false → (x : ℕ) → x < n → P x → ⊥
  none_holds e x l p = clash (t.sees x p) (some_not f n e x l)

  pub holds_none : ((x : ℕ) → x < n → P x → ⊥) → some f n ≡ false
  holds_none h = none f n (λ x l. fails (λ e. h x l (t.says x e)))

  pub lowest : some f n ≡ true → Lowest P n (least f n)
  lowest e =
      let w = some_at f n e in
      record { low = w.0; here = t.says (least f n) w.1; lower = λ x l p. clash (t.sees x p) ((least_is f n).before x l) }

  module _ {a : ℕ} (w : Lowest P n a) where
    pub lowest_some : some f n ≡ true
    lowest_some = some_yes f n a w.low (t.sees a w.here)

    pub lowest_least : a ≡ least f n
    lowest_least =
        least_only f n a
        (record { within = omega (arith, w.low); before = λ x l. fails (λ e. w.lower x l (t.says x e)); found = λ l. t.sees a w.here })

module _ {P : ℕ → ℕ → Type 0} {n : ℕ → ℕ} {f : ℕ → ℕ → Bool} {g : ℕ → Bool} (t : Search2 P n f g) (m : ℕ) where
  -- the search for the second number
  second : (x : ℕ) → Search (P x) (f x)
  second x = record { says = t.says x; sees = t.sees x }

  quiet : (x : ℕ) → g x ≡ false → (y : ℕ) → y < n x → P x y → ⊥
  quiet x e = none_holds (second x) (n x) (sym (t.one x) ∙ e)

  pub none_holds2 : some g m ≡ false → (x y : ℕ) → x < m → y < n x → P x y → ⊥
  none_holds2 e x y lx ly = quiet x (some_not g m e x lx) y ly

  pub holds_none2 : ((x y : ℕ) → x < m → y < n x → P x y → ⊥) → some g m ≡ false
  holds_none2 h = none g m (λ x l. t.one x ∙ holds_none (second x) (n x) (λ y. h x y l))

  pub lowest2 : some g m ≡ true → Lowest2 P m n (least g m) (least (f (least g m)) (n (least g m)))
  lowest2 e =
      let a : ℕ = least g m in
      let w = some_at g m e in
      let v = lowest (second a) (n a) (sym (t.one a) ∙ w.1) in
      record {
        first_low = w.0;
        second_low = v.low;
        here = v.here;
        lower_first = λ x y l. quiet x ((least_is g m).before x l) y;
        lower_second = v.lower;
      }

  module _ {a b : ℕ} (w : Lowest2 P m n a b) where
    inner : Lowest (P a) (n a) b
    inner = record { low = w.second_low; here = w.here; lower = w.lower_second }

    found : g a ≡ true
    found = t.one a ∙ lowest_some (second a) (n a) inner

    pub lowest2_some : some g m ≡ true
    lowest2_some = some_yes g m a w.first_low found

    pub lowest2_first : a ≡ least g m
    lowest2_first =
        least_only g m a
        (record {
          within = omega (arith, w.first_low);
          before = λ x l. t.one x ∙ holds_none (second x) (n x) (λ y. w.lower_first x y l);
          found = λ l. found;
        })

    pub lowest2_second : b ≡ least (f a) (n a)
    lowest2_second = lowest_least (second a) (n a) inner

module _ {P : ℕ → ℕ → ℕ → Type 0} {m : ℕ → ℕ} {n : ℕ → ℕ → ℕ} {f : ℕ → ℕ → ℕ → Bool} {g : ℕ → ℕ → Bool} {h : ℕ → Bool} (t : Search3 P m n f g h) (l : ℕ) where
  -- the search for the second and third number
  rest : (x : ℕ) → Search2 (P x) (n x) (f x) (g x)
  rest x = record { says = t.says x; sees = t.sees x; one = t.one x }

  quiet3 : (x : ℕ) → h x ≡ false → (y z : ℕ) → y < m x → z < n x y → P x y z → ⊥
  quiet3 x e = none_holds2 (rest x) (m x) (sym (t.two x) ∙ e)

  pub none_holds3 : some h l ≡ false → (x y z : ℕ) → x < l → y < m x → z < n x y → P x y z → ⊥
  none_holds3 e x y z lx = quiet3 x (some_not h l e x lx) y z

  pub holds_none3 : ((x y z : ℕ) → x < l → y < m x → z < n x y → P x y z → ⊥) → some h l ≡ false
  holds_none3 q = none h l (λ x lx. t.two x ∙ holds_none2 (rest x) (m x) (λ y z. q x y z lx))

  pub lowest3 : some h l ≡ true → (let a : ℕ = least h l in let b : ℕ = least (g a) (m a) in Lowest3 P l m n a b (least (f a b) (n a b)))
  lowest3 e =
      let a : ℕ = least h l in
      let w = some_at h l e in
      let v = lowest2 (rest a) (m a) (sym (t.two a) ∙ w.1) in
      record {
        first_low = w.0;
        second_low = v.first_low;
        third_low = v.second_low;
        here = v.here;
        lower_first = λ x y z lx. quiet3 x ((least_is h l).before x lx) y z;
        lower_second = v.lower_first;
        lower_third = v.lower_second;
      }

  module _ {a b c : ℕ} (w : Lowest3 P l m n a b c) where
    inner3 : Lowest2 (P a) (m a) (n a) b c
    inner3 = record { first_low = w.second_low; second_low = w.third_low; here = w.here; lower_first = w.lower_second; lower_second = w.lower_third }

    found3 : h a ≡ true
    found3 = t.two a ∙ lowest2_some (rest a) (m a) inner3

    pub lowest3_some : some h l ≡ true
    lowest3_some = some_yes h l a w.first_low found3

    pub lowest3_first : a ≡ least h l
    lowest3_first =
        least_only h l a
        (record {
          within = omega (arith, w.first_low);
          before = λ x lx. t.two x ∙ holds_none2 (rest x) (m x) (λ y z. w.lower_first x y z lx);
          found = λ lx. found3;
        })

    pub lowest3_second : b ≡ least (g a) (m a)
    lowest3_second = lowest2_first (rest a) (m a) inner3

    pub lowest3_third : c ≡ least (f a b) (n a b)
    lowest3_third = lowest2_second (rest a) (m a) inner3
