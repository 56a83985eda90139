-- What is put behind a line: bytes one after another, as far as there is room; what stood in the line stays.
use Rattle.std.specs.Prelude.{◌≡◌, refl, Bool, true, false, List, ℕ, zero, suc, ◌+◌, ◌≤◌, ◌<◌, ltb, get_or, length, set}
use Rattle.std.proofs.Common.{sym, ap, ◌∙◌, subst, add-one, arith, get_or-set_other}
use Rattle.console.specs.declared.Line.{Line}

abbrev pub room : Bool → Line → Line → Line
room true a b = a
room false a b = b

-- a byte more; a line that is full stays as it is
unfoldable pub put_byte : Line → ℕ → Line
put_byte l x = room (ltb l.length 256) (record { text = set l.text l.length x; length = l.length + 1 }) l

-- the first n of some bytes, one after another
unfoldable pub put_first : Line → List ℕ → ℕ → Line
put_first l xs zero = l
put_first l xs (suc n) = put_byte (put_first l xs n) (get_or xs n 0)

-- a line that goes on from another: what stood there stands there still
pub record Continues (l r : Line) : Type 0 where
  pub longer : l.length ≤ r.length
  pub kept : (i : ℕ) → i < l.length → get_or r.text i 0 ≡ get_or l.text i 0

-- ---- laws
put_more : (l : Line) (xs : List ℕ) (n : ℕ) → put_first l xs (n + 1) ≡ put_byte (put_first l xs n) (get_or xs n 0)
unfolding put_first
put_more l xs n = ap (put_first l xs) (add-one n)

pub continues_same : (l : Line) → Continues l l
continues_same l = record { longer = omega arith; kept = λ i h. refl }

pub continues_on : {l m r : Line} → Continues l m → Continues m r → Continues l r
continues_on p q = record { longer = omega (arith, p.longer, q.longer); kept = λ i h. q.kept i (omega (arith, p.longer)) ∙ p.kept i h }

continues_byte : (l : Line) (x : ℕ) → Continues l (put_byte l x)
unfolding put_byte
continues_byte l x = go (ltb l.length 256)
  where
    go : (b : Bool) → Continues l (room b (record { text = set l.text l.length x; length = l.length + 1 }) l)
    go true = record { longer = omega arith; kept = λ i h. get_or-set_other l.text l.length i x 0 (λ e. omega arith) }
    go false = continues_same l

pub by_byte : {l r : Line} (x : ℕ) → r ≡ put_byte l x → Continues l r
by_byte {l} x e = subst (Continues l) (sym e) (continues_byte l x)

continues_first : (l : Line) (xs : List ℕ) (n : ℕ) → Continues l (put_first l xs n)
unfolding put_first
continues_first l xs zero = continues_same l
continues_first l xs (suc n) = continues_on (continues_first l xs n) (continues_byte (put_first l xs n) (get_or xs n 0))

pub by_words : {l r : Line} (xs : List ℕ) (n : ℕ) → r ≡ put_first l xs n → Continues l r
by_words {l} xs n e = subst (Continues l) (sym e) (continues_first l xs n)

-- one byte more of the words, and all of them
pub put_on : (l : Line) {m r : Line} (xs : List ℕ) (n : ℕ) → m ≡ put_first l xs n → r ≡ put_byte m (get_or xs n 0) → r ≡ put_first l xs (n + 1)
put_on l xs n e h = h ∙ ap (λ (x : Line). put_byte x (get_or xs n 0)) e ∙ sym (put_more l xs n)

pub put_all : (l : Line) {r : Line} (xs : List ℕ) (n : ℕ) → r ≡ put_first l xs n → n ≤ length xs → length xs ≤ n → r ≡ put_first l xs (length xs)
put_all l xs n e a b = let z : n ≡ length xs = omega arith in e ∙ ap (put_first l xs) z
