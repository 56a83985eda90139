-- One turn more of each loop of the writer: a number of a table, a pattern.
use mathlib.Core.Path.{◌≡◌, refl, sym, ap, ap₂, ◌∙◌}
use mathlib.Core.List.{List, [], ◌∷◌, ◌++◌, map, append_assoc}
use Prim.Native.Nat.{ℕ, zero, suc, ◌+◌, ◌*◌, ◌<◌, ◌≤◌}
use native.Mathlib.Nat.{le_antisymm}
use native.Mathlib.Omega.{arith}
use lib.ListN.{length, get_or, set, take, drop, length-append}
use lib.Seq.{paste, paste-zero, paste-suc, length-paste, sets-eq, take-length}
use Rattle.std.proofs.lemmas.List.{map-id, map_more, take-map, get_or-map, get_or-take, get_or-drop, length-drop, length-take-le, take_all, take-append-drop}
use Rattle.vocabulary.specs.Table.{table, join}
use Rattle.vocabulary.proofs.Table.{table_end, length_table, get_or_table, is_table}
use Rattle.vocabulary.proofs.Total.{total_up}
use Rattle.vocabulary.proofs.Lists.{length_join}
use Rattle.vocabulary.proofs.Parts.{join_long}
use Rattle.kinds.specs.declared.Pattern.{Pattern}
use Rattle.kinds.specs.RangeLaws.{pairs_more}
use Rattle.kinds.specs.Tasks.{pattern_in, pattern_in_lem, tasks_of, patterns_of, pairs_in, first_in, second_in}
use Rattle.numbers.specs.Numbers.{number_bytes}
use Rattle.writer.specs.Format.{task_numbers, bytes_in}
use Rattle.writer.specs.FormatLaws.{bytes_both, bytes_one, bytes_none, pattern_bytes}
use Rattle.writer.specs.Lent.{part, Gives, NumbersLent, NumbersLong, PatternsLent}
use Rattle.writer.specs.Wrote.{Wrote, NumbersWrote, wrote_none, wrote_both, wrote_long}
use Rattle.writer.proofs.Widths.{bytes_low}

-- ---- numbers
-- fewer numbers have no more bytes
pub fewer : (xs : List ℕ) (i : ℕ) → length (bytes_in (take i xs)) ≤ length (bytes_in xs)
fewer xs i =
    omega (
      arith,
      ap (λ (ys : List ℕ). length (bytes_in ys)) (take-append-drop i xs),
      ap length (bytes_both (take i xs) (drop i xs)),
      length-append (bytes_in (take i xs)) (bytes_in (drop i xs)),
    )

module _ {T : Type 0} (converts : T → ℕ → Type 0) (xs : List T) where
  pub long_none : NumbersLong converts (take 0 xs) 0
  long_none value h = sym (ap length bytes_none)

  pub wrote_nothing : (out : List ℕ) (at : ℕ) → NumbersWrote converts (take 0 xs) out at out at
  wrote_nothing out at value h = rw bytes_none (wrote_none out at)

  pub long_all : (i : ℕ) {n : ℕ} → length xs ≤ i → NumbersLong converts (take i xs) n → NumbersLong converts xs n
  long_all i l w = rw (take_all i xs l) at w

  pub wrote_all : (i : ℕ) {out now : List ℕ} {at next : ℕ} → length xs ≤ i → NumbersWrote converts (take i xs) out at now next
      → NumbersWrote converts xs out at now next
  wrote_all i l w = rw (take_all i xs l) at w

  module _ (i : ℕ) {x : T} {v : ℕ} (l : i < length xs) (e : x ≡ get_or xs i x) (q : converts x v) where
    bytes_next : (value : T → ℕ) → Gives converts value → bytes_in (map value (take (i + 1) xs)) ≡ bytes_in (map value (take i xs)) ++ number_bytes v
    bytes_next value h =
        ap bytes_in (map_more value xs i x l ∙ ap (λ (y : T). map value (take i xs) ++ (value y ∷ [])) (sym e))
        ∙ bytes_both (map value (take i xs)) (value x ∷ [])
        ∙ ap (λ (ys : List ℕ). bytes_in (map value (take i xs)) ++ ys) (bytes_one (value x) ∙ ap number_bytes (sym (h x v q)))

    pub long_next : {t w : ℕ} → NumbersLong converts (take i xs) t → w ≡ length (number_bytes v) → NumbersLong converts (take (i + 1) xs) (t + w)
    long_next a b value h =
        omega (arith, ap length (bytes_next value h), length-append (bytes_in (map value (take i xs))) (number_bytes v), a value h, b)

    module _ {out now : List ℕ} {at next : ℕ} (w : NumbersWrote converts (take i xs) out at now next) where
      pub wrote_next : {new : List ℕ} {far : ℕ} → Wrote now next (number_bytes v) new far → NumbersWrote converts (take (i + 1) xs) out at new far
      wrote_next r value h = rw (bytes_next value h) (wrote_both (w value h) r)

      module _ (lent : NumbersLent converts xs at (length out)) where
        pub low_next : v < 2097152
        low_next =
            omega (arith, q_is, get_or-map lent.value xs i x 0 l, ap lent.value e, lent.low i l)
          where
            q_is : v ≡ lent.value x
            q_is = lent.gives x v q

        -- there is room for it
        pub room_next : next + length (number_bytes v) ≤ length now
        room_next =
            omega (
              arith,
              (w lent.value lent.gives).ends,
              wrote_long (w lent.value lent.gives),
              ap length (bytes_next lent.value lent.gives),
              length-append (bytes_in (map lent.value (take i xs))) (number_bytes v),
              ap (λ (ys : List ℕ). length (bytes_in ys)) (take-map lent.value (i + 1) xs),
              fewer (map lent.value xs) (i + 1),
              lent.fits,
            )

-- numbers that stand for themselves
module _ (xs : List ℕ) {ys : List ℕ} (e : xs ≡ ys) where
  plain : map (λ (x : ℕ). x) xs ≡ ys
  plain = map-id xs ∙ e

  pub plain_lent : {at room : ℕ} → ((i : ℕ) → i < length ys → get_or ys i 0 < 2097152) → at + length (bytes_in ys) ≤ room
      → NumbersLent (λ (x v : ℕ). v ≡ x) xs at room
  plain_lent low fits =
      record {
        value = λ x. x;
        gives = λ x v h. h;
        low = λ i l. rw plain (low i (omega (arith, ap length e)));
        fits = rw plain fits;
      }

  pub plain_wrote : {old new : List ℕ} {at next : ℕ} → NumbersWrote (λ (x v : ℕ). v ≡ x) xs old at new next → Wrote old at (bytes_in ys) new next
  plain_wrote w = rw plain at (w (λ x. x) (λ x v h. h))

  pub plain_long : {n : ℕ} → NumbersLong (λ (x v : ℕ). v ≡ x) xs n → n ≡ length (bytes_in ys)
  plain_long w = rw plain at (w (λ x. x) (λ x v h. h))

pub three_low : {a b c : ℕ} → a < 2097152 → b < 2097152 → c < 2097152 → (i : ℕ) → i < 3 → get_or (a ∷ b ∷ c ∷ []) i 0 < 2097152
three_low p q r zero l = p
three_low p q r (suc zero) l = q
three_low p q r (suc (suc zero)) l = r
three_low p q r (suc (suc (suc i))) l = absurd (omega arith)

-- ---- parts of tables
module _ (xs : List ℕ) where
  pub part_at : (a k n : ℕ) → a + n ≤ length xs → k ≡ n → take k (drop a xs) ≡ part xs a n
  part_at a k n l e =
      is_table (λ j. get_or xs (a + j) 0) n 0 (take k (drop a xs))
      (omega (arith, length-take-le k (drop a xs) (omega (arith, length-drop a xs))))
      (λ i h. get_or-take k (drop a xs) i 0 (omega arith) ∙ get_or-drop a xs i 0)

  pub part_long : {ys : List ℕ} (start n : ℕ) → ys ≡ part xs start n → length ys ≡ n
  part_long start n e = ap length e ∙ length_table (λ j. get_or xs (start + j) 0) n

  -- a bound of all numbers of the table is one of those of a part
  pub part_below : (start n bound : ℕ) → ((i : ℕ) → i < n → get_or xs (start + i) 0 < bound) → (i : ℕ) → i < length (part xs start n)
      → get_or (part xs start n) i 0 < bound
  part_below start n bound h i l =
      let e : length (part xs start n) ≡ n = length_table (λ j. get_or xs (start + j) 0) n in
      rw (get_or_table (λ j. get_or xs (start + j) 0) n i 0 (omega arith)) (h i (omega arith))

  -- there are at most three bytes for each
  pub part_low : (start n : ℕ) → length (bytes_in (part xs start n)) ≤ 3 * n
  part_low start n = omega (arith, bytes_low (part xs start n), length_table (λ j. get_or xs (start + j) 0) n)

-- ---- the numbers of tasks and of pairs, as they stand in their tables
two_more : (f : ℕ → ℕ) (n : ℕ) → table f (n + 2) ≡ table f n ++ (f n ∷ f (n + 1) ∷ [])
two_more f n =
    let y : n + 2 ≡ suc (suc n) = omega arith in
    let z : n + 1 ≡ suc n = omega arith in
    rw (y, z) (table_end f (suc n) ∙ ap (λ (xs : List ℕ). xs ++ (f (suc n) ∷ [])) (table_end f n) ∙ append_assoc (table f n) (f n ∷ []) (f (suc n) ∷ []))

four_more : (f : ℕ → ℕ) (n : ℕ) → table f (n + 4) ≡ table f n ++ (f n ∷ f (n + 1) ∷ f (n + 2) ∷ f (n + 3) ∷ [])
four_more f n =
    let y : n + 4 ≡ n + 2 + 2 = omega arith in
    let z : n + 2 + 1 ≡ n + 3 = omega arith in
    rw y
    (two_more f (n + 2)
    ∙ rw (two_more f n, z) (append_assoc (table f n) (f n ∷ f (n + 1) ∷ []) (f (n + 2) ∷ f (n + 3) ∷ [])))

pub two_same : {a b x y : ℕ} → a ≡ x → b ≡ y → ◌≡◌ {A = List ℕ} (a ∷ b ∷ []) (x ∷ y ∷ [])
two_same p q = rw (p, q)

pub four_same : {a b c d x y z w : ℕ} → a ≡ x → b ≡ y → c ≡ z → d ≡ w → ◌≡◌ {A = List ℕ} (a ∷ b ∷ c ∷ d ∷ []) (x ∷ y ∷ z ∷ w ∷ [])
four_same p q r s = rw (p, q, r, s)

pub tasks_part : (xs : List ℕ) (m n : ℕ) → join (task_numbers (tasks_of m xs)) n ≡ part xs 0 (4 * n)
unfolding join table
tasks_part xs m zero = refl
tasks_part xs m (suc n) =
    let f : ℕ → ℕ = λ j. get_or xs (0 + j) 0 in
    let z : 4 * suc n ≡ 4 * n + 4 = omega arith in
    let e : (j : ℕ) → get_or xs j 0 ≡ f j = λ j. ap (λ (i : ℕ). get_or xs i 0) (let g : j ≡ 0 + j = omega arith in g) in
    ap₂ ◌++◌ (tasks_part xs m n) (four_same (e (4 * n)) (e (4 * n + 1)) (e (4 * n + 2)) (e (4 * n + 3)))
    ∙ sym (four_more f (4 * n))
    ∙ ap (table f) (sym z)

pairs_part : (ps : List ℕ) (start n : ℕ) → join (λ q. first_in ps (start + q) ∷ second_in ps (start + q) ∷ []) n ≡ part ps (2 * start) (2 * n)
unfolding join table
pairs_part ps start zero = refl
pairs_part ps start (suc n) =
    let f : ℕ → ℕ = λ j. get_or ps (2 * start + j) 0 in
    let z : 2 * suc n ≡ 2 * n + 2 = omega arith in
    let g : ℕ → ℕ = λ j. get_or ps j 0 in
    let a : 2 * (start + n) ≡ 2 * start + 2 * n = omega arith in
    let b : 2 * (start + n) + 1 ≡ 2 * start + (2 * n + 1) = omega arith in
    ap₂ ◌++◌ (pairs_part ps start n) (two_same (ap g a) (ap g b)) ∙ sym (two_more f (2 * n)) ∙ ap (table f) (sym z)

-- ---- the slots, one after another
module _ (out : List ℕ) (at : ℕ) (slots : List ℕ) where
  pub copy_first : out ≡ paste out at slots 0
  copy_first = paste-zero out at slots

  module _ (e : ℕ) {now : List ℕ} (room : at + length slots ≤ length out) where
    pub copy_long : (e ≤ length slots) × (now ≡ paste out at slots e) → length now ≡ length out
    copy_long w = ap length w.1 ∙ length-paste out at slots e (omega (arith, w.0)) w.0

    pub copy_next : e < length slots → now ≡ paste out at slots e → set now (at + e) (get_or slots e 0) ≡ paste out at slots (e + 1)
    copy_next l w =
        let z : e + 1 ≡ suc e = omega arith in
        rw (z, w) (paste-suc out at slots e 0 (omega arith) l)

    pub copied : length slots ≤ e → (e ≤ length slots) × (now ≡ paste out at slots e) → Wrote out at slots now (at + length slots)
    copied h w =
        record {
          ends = refl;
          is = w.1 ∙ ap (paste out at slots) (le_antisymm w.0 h) ∙ rw (take-length slots) (sym (sets-eq slots out at room));
        }

-- ---- a pattern with its pairs
module _ (n : ℕ) (hs ps : List ℕ) (lent : PatternsLent (patterns_of n hs ps)) where
  abbrev F : ℕ → List ℕ
  F = pattern_bytes (patterns_of n hs ps)

  module _ (k : ℕ) {used : ℕ} {p : Pattern} (l : k < n) (used_is : used ≡ pairs_in hs k) (p-is : p ≡ pattern_in hs k) where
    heading : p ≡ record { from = get_or hs (3 * k) 0; to = get_or hs (3 * k + 1) 0; pairs = get_or hs (3 * k + 2) 0 }
    heading = p-is ∙ pattern_in_lem hs k (omega (arith, lent.few))

    pub from_low : p.from < 2097152
    from_low = rw heading (lent.from k l)

    pub to_low : p.to < 2097152
    to_low = rw heading (lent.to k l)

    pub used_low : used + p.pairs ≤ 1024
    used_low = omega (arith, used_is, ap (λ (x : Pattern). x.pairs) heading, lent.room k l)

    pub count_low : p.pairs < 2097152
    count_low = omega (arith, used_low)

    abbrev three : List ℕ
    three = p.from ∷ p.to ∷ p.pairs ∷ []

    pub turn_bytes : F k ≡ bytes_in three ++ bytes_in (part ps (2 * used) (2 * p.pairs))
    turn_bytes =
        bytes_both (get_or hs (3 * k) 0 ∷ get_or hs (3 * k + 1) 0 ∷ get_or hs (3 * k + 2) 0 ∷ []) _
        ∙ rw (pairs_part ps (pairs_in hs k) (get_or hs (3 * k + 2) 0), used_is, heading)

    pub used_turn : used + p.pairs ≡ pairs_in hs (k + 1)
    used_turn = omega (arith, used_is, ap (λ (x : Pattern). x.pairs) heading, pairs_more hs k)

    pub length_turn : {t a b : ℕ} → t ≡ length (join F k) → a ≡ length (bytes_in three) → b ≡ length (bytes_in (part ps (2 * used) (2 * p.pairs)))
        → t + (a + b) ≡ length (join F (k + 1))
    length_turn x y z =
        omega (arith, x, y, z, join_long [] 0 F k, ap length turn_bytes, length-append (bytes_in three) (bytes_in (part ps (2 * used) (2 * p.pairs))))

    -- a heading has at most nine, and a pair at most six
    pub turn_low : {t a b : ℕ} → t ≤ 9 * k + 6 * used → a ≡ length (bytes_in three) → b ≡ length (bytes_in (part ps (2 * used) (2 * p.pairs)))
        → t + (a + b) ≤ 9 * (k + 1) + 6 * (used + p.pairs)
    turn_low x y z = omega (arith, x, y, z, bytes_low three, part_low ps (2 * used) (2 * p.pairs))

    -- fewer patterns have no more bytes
    turn_up : length (join F (k + 1)) ≤ length (join F n)
    turn_up = omega (arith, length_join F (k + 1), length_join F n, total_up (λ j. length (F j)) (k + 1) n (omega arith))

    module _ {out now : List ℕ} {at next : ℕ} (w : Wrote out at (join F k) now next) where
      pub wrote_turn : {x y : List ℕ} {q r : ℕ} → Wrote now next (bytes_in three) x q → Wrote x q (bytes_in (part ps (2 * used) (2 * p.pairs))) y r
          → Wrote out at (join F (k + 1)) y r
      unfolding join
      wrote_turn u v =
          let z : k + 1 ≡ suc k = omega arith in
          rw (z, turn_bytes, ← append_assoc (join F k) (bytes_in three) (bytes_in (part ps (2 * used) (2 * p.pairs)))) (wrote_both (wrote_both w u) v)

      module _ (room : at + length (join F n) ≤ length out) where
        far : at + length (join F k) + length (bytes_in three) + length (bytes_in (part ps (2 * used) (2 * p.pairs))) ≤ length out
        far = omega (arith, room, turn_up, length_turn refl refl refl)

        pub heading_room : next + length (bytes_in three) ≤ length now
        heading_room = omega (arith, far, w.ends, wrote_long w)

        pub pairs_room : {x : List ℕ} {q : ℕ} → Wrote now next (bytes_in three) x q → q + length (bytes_in (part ps (2 * used) (2 * p.pairs))) ≤ length x
        pairs_room u = omega (arith, far, w.ends, wrote_long w, u.ends, wrote_long u)

pub no_patterns : (f : ℕ → List ℕ) → 0 ≡ length (join f 0)
unfolding join
no_patterns f = refl

pub wrote_no_pattern : (f : ℕ → List ℕ) (out : List ℕ) (at : ℕ) → Wrote out at (join f 0) out at
unfolding join
wrote_no_pattern f out at = wrote_none out at

pub wrote_patterns : (f : ℕ → List ℕ) {k n : ℕ} {out now : List ℕ} {at next : ℕ} → k ≤ n → n ≤ k → Wrote out at (join f k) now next
    → Wrote out at (join f n) now next
wrote_patterns f l h w = rw (le_antisymm l h) at w
