-- The lowest place at which something holds, where a place is one, two or three numbers that are compared in their order; and that nested searches
-- for the least number find it.
use Rattle.std.specs.Prelude.{◌≡◌, Bool, true, ℕ, ◌<◌}
use Rattle.vocabulary.specs.Least.{some}

-- a, below n, is the lowest number at which P holds
pub record Lowest (P : ℕ → Type 0) (n a : ℕ) : Type 0 where
  pub low : a < n
  pub here : P a
  pub lower : (x : ℕ) → x < a → P x → ⊥

-- (a, b) is the lowest place at which P holds: a below m, b below a limit that may go by a
pub record Lowest2 (P : ℕ → ℕ → Type 0) (m : ℕ) (n : ℕ → ℕ) (a b : ℕ) : Type 0 where
  pub first_low : a < m
  pub second_low : b < n a
  pub here : P a b
  pub lower_first : (x y : ℕ) → x < a → y < n x → P x y → ⊥
  pub lower_second : (y : ℕ) → y < b → P a y → ⊥

-- (a, b, c) is the lowest place at which P holds
pub record Lowest3 (P : ℕ → ℕ → ℕ → Type 0) (l : ℕ) (m : ℕ → ℕ) (n : ℕ → ℕ → ℕ) (a b c : ℕ) : Type 0 where
  pub first_low : a < l
  pub second_low : b < m a
  pub third_low : c < n a b
  pub here : P a b c
  pub lower_first : (x y z : ℕ) → x < a → y < m x → z < n x y → P x y z → ⊥
  pub lower_second : (y z : ℕ) → y < b → z < n a y → P a y z → ⊥
  pub lower_third : (z : ℕ) → z < c → P a b z → ⊥

-- ---- one number, where they agree everywhere
-- the test f tells whether P holds
pub record Search (P : ℕ → Type 0) (f : ℕ → Bool) : Type 0 where
  pub says : (x : ℕ) → f x ≡ true → P x
  pub sees : (x : ℕ) → P x → f x ≡ true

-- ---- two numbers: f tells whether P holds, and g whether it does for some second number
pub record Search2 (P : ℕ → ℕ → Type 0) (n : ℕ → ℕ) (f : ℕ → ℕ → Bool) (g : ℕ → Bool) : Type 0 where
  pub says : (x y : ℕ) → f x y ≡ true → P x y
  pub sees : (x y : ℕ) → P x y → f x y ≡ true
  pub one : (x : ℕ) → g x ≡ some (f x) (n x)

-- ---- three numbers: f tells whether P holds, g whether it does for some third number, h for some second
pub record Search3 (P : ℕ → ℕ → ℕ → Type 0) (m : ℕ → ℕ) (n : ℕ → ℕ → ℕ) (f : ℕ → ℕ → ℕ → Bool) (g : ℕ → ℕ → Bool) (h : ℕ → Bool) : Type 0 where
  pub says : (x y z : ℕ) → f x y z ≡ true → P x y z
  pub sees : (x y z : ℕ) → P x y z → f x y z ≡ true
  pub one : (x y : ℕ) → g x y ≡ some (f x y) (n x y)
  pub two : (x : ℕ) → h x ≡ some (g x) (m x)
