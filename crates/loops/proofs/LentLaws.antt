-- Rows that are cleared, and what the tests say of links that are lent.
use Rattle.std.specs.Prelude.{Option, None}
use mathlib.Core.Path.{◌≡◌, refl, sym, ap, ◌∙◌}
use mathlib.Core.Bool.{Bool, true, false}
use mathlib.Core.List.{List, []}
use mathlib.Core.Logic.{◌⊎◌, inl, inr}
use Prim.Native.Nat.{ℕ, ◌≤◌, ◌<◌}
use native.Mathlib.Omega.{arith}
use borrow.Author.Tests.{lt-ltb, le-ltb, ltb-true, eq-eqb, ne_eqb, eqb-true, le-leb, lt-leb, leb-true}
use lib.Dec.{eqb, leb, ltb}
use lib.ListN.{length, get_or, get_or-eq_default, replicate, length-replicate, get_or-replicate}
use Rattle.vocabulary.proofs.Test.{both, lt_or_le}
use Rattle.vocabulary.proofs.Least.{all_at, all_from}
use Rattle.vocabulary.proofs.Table.{length_table, get_or_table, is_table}
use Rattle.graph.specs.Graph.{graph_of, lowest_job}
use Rattle.graph.specs.Column.{column}
use Rattle.graph.proofs.Column.{column_long, column_at}
use Rattle.graph.specs.Pass.{at}
use Rattle.graph.specs.JobRows.{starts, ends}
use Rattle.graph.specs.SearchRows.{no_row, Cleared, Clearing, SearchAsked}
use Rattle.loops.specs.LentLinks.{inside, linked, roomy, lowest_in, no_lists, no_rows}

-- ---- what is cleared
pub rows_cleared : (rows rows' : List (List ℕ)) (i : ℕ) → Clearing rows rows' i → length rows' ≤ i → rows' ≡ no_rows (length rows)
rows_cleared rows rows' i p l = is_table (λ x. no_row) (length rows) [] rows' p.long (λ x h. p.done x (omega (arith, p.long)))

pub lists_cleared : (n : ℕ) (next : List ℕ) → next ≡ replicate n 0 → next ≡ no_lists n
lists_cleared n next e = e ∙ is_table (λ x. 0) n 0 (replicate n 0) (length-replicate n 0) (λ i l. get_or-replicate n i 0 0 l)

pub cleared : (rows rows' : List (List ℕ)) → rows' ≡ no_rows (length rows) → Cleared rows rows'
cleared rows rows' e =
    record { long = long; none₀ = λ x. none 0 x refl (lt_or_le x (length rows)); none₁ = λ x. none 1 x refl (lt_or_le x (length rows)) }
  where
    long : length rows' ≡ length rows
    long = ap length e ∙ length_table (λ x. no_row) (length rows)

    none : (k x : ℕ) → get_or no_row k 0 ≡ 0 → (x < length rows) ⊎ (length rows ≤ x) → at (column k rows') x ≡ 0
    none k x z (inl h) =
        column_at k rows' x
        ∙ ap (λ (rs : List (List ℕ)). get_or (get_or rs x []) k 0) e
        ∙ ap (λ (r : List ℕ). get_or r k 0) (get_or_table (λ y. no_row) (length rows) x [] h)
        ∙ z
    none k x z (inr h) = get_or-eq_default (column k rows') 0 (omega (arith, column_long k rows', long))

-- ---- a link from job to job
module _ (links : List (List ℕ)) (n k : ℕ) where
  pub start_over : {a : ℕ} → a ≡ get_or (get_or links k []) 0 0 → n ≤ a → inside links n k ≡ false
  unfolding inside
  start_over {a} e l = rw (le-ltb (get_or (get_or links k []) 0 0) n (omega (arith, e)))

  module _ {a : ℕ} (ea : a ≡ get_or (get_or links k []) 0 0) (la : a < n) where
    pub end_over : {b : ℕ} → b ≡ get_or (get_or links k []) 1 0 → n ≤ b → inside links n k ≡ false
    unfolding inside
    end_over {b} e l = rw (lt-ltb (get_or (get_or links k []) 0 0) n (omega (arith, ea)), le-ltb (get_or (get_or links k []) 1 0) n (omega (arith, e)))

    pub is_inside : {b : ℕ} → b ≡ get_or (get_or links k []) 1 0 → b < n → inside links n k ≡ true
    unfolding inside
    is_inside {b} e l = rw (lt-ltb (get_or (get_or links k []) 0 0) n (omega (arith, ea)), lt-ltb (get_or (get_or links k []) 1 0) n (omega (arith, e)))

-- ---- room, and what a search asks
module _ (links lists jobs : ℕ) where
  pub other_length : (lists ≡ links → ⊥) → false ≡ roomy links lists jobs
  unfolding roomy
  other_length h = rw (ne_eqb lists links h)

  pub many_links : lists ≡ links → 4096 < links → false ≡ roomy links lists jobs
  unfolding roomy
  many_links e l = rw (eq-eqb lists links e, lt-leb links 4096 l)

  pub jobs_decide : lists ≡ links → links ≤ 4096 → (b : Bool) → b ≡ leb jobs 2048 → b ≡ roomy links lists jobs
  unfolding roomy
  jobs_decide e l b q = rw (eq-eqb lists links e, le-leb links 4096 l) q

module _ (links : List (List ℕ)) (lists n : ℕ) where
  pub no_room : roomy (length links) lists n ≡ false → None ≡ lowest_in links lists n
  unfolding lowest_in
  no_room e = rw e

  pub not_linked : roomy (length links) lists n ≡ true → linked links n ≡ false → None ≡ lowest_in links lists n
  unfolding lowest_in
  not_linked e f = rw (e, f)

  module _ (e : roomy (length links) lists n ≡ true) (f : linked links n ≡ true) where
    pub lowest_in_lem : {x : Option ℕ} → x ≡ lowest_job (graph_of (starts links) (ends links) n) → x ≡ lowest_in links lists n
    unfolding lowest_in
    lowest_in_lem p = p ∙ rw (e, f)

    each : (k : ℕ) → k < length links → (get_or (get_or links k []) 0 0 < n) × (get_or (get_or links k []) 1 0 < n)
    unfolding linked inside
    each k l =
        let b = both {a = ltb (get_or (get_or links k []) 0 0) n} (all_at (inside links n) (length links) f k l) in
        (ltb-true (get_or (get_or links k []) 0 0) n b.0, ltb-true (get_or (get_or links k []) 1 0) n b.1)

    pub search_asked : (next : List ℕ) (rows : List (List ℕ)) → length next ≡ lists → length rows ≡ n → SearchAsked links next rows
    unfolding roomy
    search_asked next rows en er =
        let p = both {a = eqb lists (length links)} e in
        let q = both {a = leb (length links) 4096} p.1 in
        record {
          between = record {
            long = column_long 1 links ∙ sym (column_long 0 links);
            starts = λ k l. omega (arith, column_at 0 links k, (each k (omega (arith, column_long 0 links))).0);
            ends = λ k l. omega (arith, column_at 1 links k, (each k (omega (arith, column_long 0 links))).1);
          };
          long = omega (arith, eqb-true lists (length links) p.0);
          few_links = leb-true (length links) 4096 q.0;
          few_jobs = omega (arith, leb-true n 2048 q.1);
        }

-- ==== where a search asks no more, it is the lowest job on a cycle
module _ (links : List (List ℕ)) (next : List ℕ) (rows : List (List ℕ)) (a : SearchAsked links next rows) where
  has_room : roomy (length links) (length next) (length rows) ≡ true
  unfolding roomy
  has_room =
      rw (eq-eqb (length next) (length links) a.long, le-leb (length links) 4096 a.few_links, le-leb (length rows) 2048 a.few_jobs)

  all_inside : linked links (length rows) ≡ true
  unfolding linked
  all_inside =
      all_from (inside links (length rows)) (length links)
      (λ k l. is_inside links (length rows) k refl (omega (arith, column_at 0 links k, a.between.starts k (omega (arith, column_long 0 links)))) refl
      (omega (arith, column_at 1 links k, a.between.ends k (omega (arith, column_long 0 links)))))

  pub lowest_of : lowest_in links (length next) (length rows) ≡ lowest_job (graph_of (starts links) (ends links) (length rows))
  lowest_of = sym (lowest_in_lem links (length next) (length rows) has_room all_inside refl)
