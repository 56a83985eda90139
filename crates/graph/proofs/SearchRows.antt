-- Laws of the definitions in specs/SearchRows.antt.
use Rattle.std.specs.Prelude.{◌≡◌, refl, Bool, true, false, List, [], ◌⊎◌, ℕ, ◌+◌, ◌-◌, ◌≤◌, ◌<◌, length, get_or, set, Option, Some, None}
use Rattle.std.proofs.Common.{sym, ap, ◌∙◌, inl, inr, ⊎_elim, arith, length-set, get_or-set_same, get_or-set_other}
use Rattle.std.proofs.Math.ListN.{get_or-eq_default}
use Rattle.vocabulary.proofs.Test.{clash, lt_or_le, eq_or_ne}
use Rattle.vocabulary.proofs.Least.{seek, on, found, nowhere}
use Rattle.graph.specs.Graph.{graph_of, Way, loops, lowest_job}
use Rattle.graph.proofs.Reach.{loops_iff}
use Rattle.graph.specs.Column.{column}
use Rattle.graph.proofs.Column.{column_long, column_at, column_set, column_kept}
use Rattle.graph.specs.Pass.{at}
use Rattle.graph.proofs.Cycle.{between_inside}
use Rattle.graph.specs.Search.{Queued}
use Rattle.graph.proofs.Search.{thread_from, thread_on, queue_low, queue_from, queue_room, queue_on, queue_grown}
use Rattle.graph.specs.Search.{Grown, Closed}
use Rattle.graph.proofs.Search.{mark_here, grown_none, grown_on, closed_grown, way_by, no_loop}
use Rattle.graph.specs.JobRows.{starts, ends}
use Rattle.graph.specs.SearchRows.{heads, marks, queue, links_of_rows, no_row, with_head, with_mark, with_place, Cleared, Clearing, SearchAsked, ThreadAsked, ThreadMade, VisitAsked, SearchVisited, WalkAsked, SearchWalked, SearchWalking, StartAsked, Begun, LoopAsked, Probed, Probing, ProbeAsked, Searching, SeekAsked}

pub clear_from : (rows : List (List ℕ)) → Clearing rows rows 0
clear_from rows = record { within = omega arith; long = refl; done = λ x l. absurd (omega arith) }

pub clear_on : (rows rows' : List (List ℕ)) (i : ℕ) → Clearing rows rows' i → i < length rows' → Clearing rows (set rows' i (no_row)) (i + 1)
clear_on rows rows' i p l =
    record {
      within = omega (arith, p.long);
      long = length-set rows' i (no_row) ∙ p.long;
      done = λ x lx. go x lx (eq_or_ne x i);
    }
  where
    go : (x : ℕ) → x < i + 1 → (x ≡ i) ⊎ (x ≡ i → ⊥) → get_or (set rows' i (no_row)) x [] ≡ no_row
    go x lx (inl e) = ap (λ (y : ℕ). get_or (set rows' i (no_row)) y []) e ∙ get_or-set_same rows' i (no_row) [] l
    go x lx (inr e) =
        get_or-set_other rows' i x (no_row) [] e
        ∙ p.done x (⊎_elim (λ h. h) (λ h. absurd (e (omega arith))) (lt_or_le x i))

pub clear_end : (rows rows' : List (List ℕ)) (i : ℕ) → Clearing rows rows' i → length rows' ≤ i → Cleared rows rows'
clear_end rows rows' i p l =
    record { long = p.long; none₀ = λ x. none 0 x refl (lt_or_le x (length rows')); none₁ = λ x. none 1 x refl (lt_or_le x (length rows')) }
  where
    none : (k x : ℕ) → get_or no_row k 0 ≡ 0 → (x < length rows') ⊎ (length rows' ≤ x) → at (column k rows') x ≡ 0
    none k x z (inl h) = column_at k rows' x ∙ ap (λ (r : List ℕ). get_or r k 0) (p.done x (omega arith)) ∙ z
    none k x z (inr h) = get_or-eq_default (column k rows') 0 (omega (arith, column_long k rows'))

pub search_cleared : (links : List (List ℕ)) (next : List ℕ) (rows rows' : List (List ℕ)) → SearchAsked links next rows → Cleared rows rows'
    → SearchAsked links next rows'
search_cleared links next rows rows' a c =
    let e = c.long in
    record { between = rw e a.between; long = a.long; few_links = a.few_links; few_jobs = omega (arith, a.few_jobs) }

pub thread_asked : (links : List (List ℕ)) (next : List ℕ) (rows rows' : List (List ℕ)) → SearchAsked links next rows → Cleared rows rows'
    → ThreadAsked links next rows'
thread_asked links next rows rows' a c =
    record { asked = search_cleared links next rows rows' a c; empty = c.none₀; unseen = c.none₁ }

pub made_from : (links : List (List ℕ)) (next : List ℕ) (rows : List (List ℕ)) → ThreadAsked links next rows → ThreadMade links next rows rows 0
made_from links next rows a =
    record {
      within = omega arith;
      long = refl;
      next_long = a.asked.long;
      lists = thread_from (starts links) (heads rows) next a.empty;
      unseen = a.unseen;
    }

module _ (links : List (List ℕ)) (next₀ next : List ℕ) (rows₀ rows : List (List ℕ)) (k : ℕ) (asked : ThreadAsked links next₀ rows₀)
    (p : ThreadMade links next rows₀ rows k) (l : k < length links) {a : ℕ} (ea : a ≡ get_or (get_or links k []) 0 0) where
  start_is : at (starts links) k ≡ a
  start_is = column_at 0 links k ∙ sym ea

  pub thread_place : a < length rows
  thread_place = omega (arith, start_is, asked.asked.between.starts k (omega (arith, column_long 0 links)), p.long)

  pub thread_low : get_or (get_or rows a []) 0 0 ≤ 4096
  thread_low = omega (arith, column_at 0 rows a, p.lists.head_low a, asked.asked.few_links)

  pub made_on : ThreadMade links (set next k (get_or (get_or rows a []) 0 0)) rows₀ (set rows a (with_head (get_or rows a []) (k + 1))) (k + 1)
  made_on =
      let r : List ℕ = with_head (get_or rows a []) (k + 1) in
      record {
        within = omega arith;
        long = length-set rows a r ∙ p.long;
        next_long = length-set next k (get_or (get_or rows a []) 0 0) ∙ p.next_long;
        lists = rw (column_set 0 rows a r, ← column_at 0 rows a)
            (thread_on (starts links) (heads rows) next k a p.lists start_is (omega (arith, thread_place, column_long 0 rows))
            (omega (arith, p.next_long)));
        unseen = λ x. ap (λ (xs : List ℕ). at xs x) (column_kept 1 rows a r refl) ∙ p.unseen x;
      }

pub made_end : (links : List (List ℕ)) (next : List ℕ) (rows rows' : List (List ℕ)) (k : ℕ) → ThreadMade links next rows rows' k → length links ≤ k
    → ThreadMade links next rows rows' (length links)
made_end links next rows rows' k p l = let e : k ≡ length links = omega (arith, p.within) in rw e at p

module _ (links : List (List ℕ)) (k x tail : ℕ) (rows : List (List ℕ)) (a : VisitAsked links k x tail rows) {y : ℕ} (ey : y ≡ get_or (get_or links k []) 1 0) where
  end_is : at (ends links) k ≡ y
  end_is = column_at 1 links k ∙ sym ey

  low₁ : k < length (starts links)
  low₁ = omega (arith, a.low, column_long 0 links)

  pub visit_place : y < length rows
  visit_place = omega (arith, end_is, a.between.ends k low₁)

  pub visit_low : tail ≤ 2048
  visit_low = omega (arith, a.few_jobs, queue_low (links_of_rows links rows) x (marks rows) (queue rows) tail a.queued)

  way : Way (links_of_rows links rows) x y
  way = rw end_is at (way_by (links_of_rows links rows) x k low₁ a.came)

  -- it closes
  pub visit_found : y ≡ x → SearchVisited links k x tail rows rows None
  visit_found e = record { long = refl; lists = refl; found = rw e at way; queued = tt; grown = tt; closed = tt }

  stays : Closed (ends links) x (marks rows) k → SearchVisited links k x tail rows rows (Some tail)
  stays h =
      record {
        long = refl;
        lists = refl;
        found = tt;
        queued = a.queued;
        grown = grown_none x (marks rows) (queue rows) tail;
        closed = h;
      }

  pub visit_below : y < x → SearchVisited links k x tail rows rows (Some tail)
  visit_below l = stays (inl (omega (arith, end_is)))

  module _ (ne : y ≡ x → ⊥) where
    pub visit_seen : get_or (get_or rows y []) 1 0 ≡ x + 1 → SearchVisited links k x tail rows rows (Some tail)
    visit_seen e = stays (inr (ap (at (marks rows)) end_is ∙ column_at 1 rows y ∙ e, λ q. ne (sym end_is ∙ q)))

    module _ (new : get_or (get_or rows y []) 1 0 ≡ x + 1 → ⊥) where
      unseen : at (marks rows) y ≡ x + 1 → ⊥
      unseen e = new (sym (column_at 1 rows y) ∙ e)

      abbrev rows₁ : List (List ℕ)
      rows₁ = set rows y (with_mark (get_or rows y []) (x + 1))

      abbrev rows₂ : List (List ℕ)
      rows₂ = set rows₁ tail (with_place (get_or rows₁ tail []) y)

      pub visit_room : tail < length (set rows y (with_mark (get_or rows y []) (x + 1)))
      visit_room =
          omega (
            arith,
            queue_room (links_of_rows links rows) x (marks rows) (queue rows) tail y a.queued visit_place unseen,
            length-set rows y
                (with_mark (get_or rows y []) (x + 1)),
          )

      heads_are : heads rows₂ ≡ heads rows
      heads_are =
          column_kept 0 rows₁ tail (with_place (get_or rows₁ tail []) y) refl
          ∙ column_kept 0 rows y (with_mark (get_or rows y []) (x + 1)) refl

      marks_are : marks rows₂ ≡ set (marks rows) y (x + 1)
      marks_are =
          column_kept 1 rows₁ tail (with_place (get_or rows₁ tail []) y) refl
          ∙ column_set 1 rows y (with_mark (get_or rows y []) (x + 1))

      queue_is : queue rows₂ ≡ set (queue rows) tail y
      queue_is =
          column_set 2 rows₁ tail (with_place (get_or rows₁ tail []) y)
          ∙ ap (λ (xs : List ℕ). set xs tail y) (column_kept 2 rows y (with_mark (get_or rows y []) (x + 1)) refl)

      pub visit_new : SearchVisited links k x tail rows rows₂ (Some (tail + 1))
      visit_new =
          record {
            long = length-set rows₁ tail (with_place (get_or rows₁ tail []) y) ∙ length-set rows y (with_mark (get_or rows y []) (x + 1));
            lists = heads_are;
            found = tt;
            queued = rw (marks_are, queue_is) (queue_on (links_of_rows links rows) x (marks rows) (queue rows) tail y a.queued visit_place unseen way);
            grown = rw (marks_are, queue_is) (queue_grown (links_of_rows links rows) x (marks rows) (queue rows) tail y a.queued visit_place unseen);
            closed =
                inr (
                  rw (end_is, marks_are)
                      (mark_here (links_of_rows links rows) x (marks rows) (queue rows) tail y a.queued visit_place unseen),
                  λ q. ne (sym end_is ∙ q),
                );
          }

module _ (links : List (List ℕ)) (next : List ℕ) (v x tail : ℕ) (rows : List (List ℕ)) (a : WalkAsked links next v x tail rows) where
  pub walk_from_lem : {i : ℕ} → i ≡ get_or (get_or rows v []) 0 0 → SearchWalking links v x tail rows rows i tail
  walk_from_lem {i} ei =
      let h : at (heads rows) v ≡ i = column_at 0 rows v ∙ sym ei in
      record {
        long = refl;
        lists = refl;
        low = omega (arith, h, a.lists.head_low v);
        own = λ j e. a.lists.head_own v j (h ∙ e);
        queued = a.queued;
        grown = grown_none x (marks rows) (queue rows) tail;
        done = λ e l m q. absurd (omega (arith, h, a.lists.head_all v e l q));
      }

  module _ (rows' : List (List ℕ)) (i t : ℕ) (p : SearchWalking links v x tail rows rows' i t) (some : 0 < i) where
    abbrev k : ℕ
    k = i - 1

    last : i ≡ i - 1 + 1
    last = omega arith

    pub walk_asks : VisitAsked links (i - 1) x t rows'
    walk_asks =
        let e = p.long in
        record {
          between = rw e a.between;
          few_jobs = omega (arith, a.few_jobs);
          low = omega (arith, p.low);
          start = omega (arith, a.start);
          came = rw (e, p.own (i - 1) last) a.came;
          queued = rw e p.queued;
        }

    pub walk_next : i - 1 < length next
    walk_next = omega (arith, p.low, a.next_long)

    pub walk_less : {j : ℕ} → j ≡ at next (i - 1) → j < i
    walk_less e = omega (arith, e, a.lists.next_low (i - 1) (omega (arith, p.low)))

    module _ (rows'' : List (List ℕ)) where
      pub walk_found : SearchVisited links (i - 1) x t rows' rows'' None → SearchWalked links v x tail rows rows'' None
      walk_found w =
          let e = p.long in
          record { long = w.long ∙ p.long; lists = w.lists ∙ p.lists; found = rw e at w.found; queued = tt; grown = tt; closed = tt }

      pub walk_on : {t' : ℕ} → SearchVisited links (i - 1) x t rows' rows'' (Some t') → {j : ℕ} → j ≡ at next (i - 1)
          → SearchWalking links v x tail rows rows'' j t'
      walk_on {t'} w {j} ej =
          let e = p.long in
          let m : i - 1 < length links = omega (arith, p.low) in
          record {
            long = w.long ∙ p.long;
            lists = w.lists ∙ p.lists;
            low = omega (arith, a.lists.next_low (i - 1) m);
            own = λ h q. a.lists.next_own (i - 1) h m (sym ej ∙ q) ∙ p.own (i - 1) last;
            queued = rw e at w.queued;
            grown = grown_on x (marks rows) (queue rows) tail (marks rows') (queue rows') t (marks rows'') (queue rows'') t' p.grown w.grown;
            done = λ h lh mh q. go h lh mh q w.closed w.grown;
          }
        where
          go : (h : ℕ) → h < length links → j ≤ h → at (starts links) h ≡ v → Closed (ends links) x (marks rows'') (i - 1)
              → Grown x (marks rows') (queue rows') t (marks rows'') (queue rows'') t' → Closed (ends links) x (marks rows'') h
          go h lh mh q c g = by (lt_or_le h i) (eq_or_ne h (i - 1))
            where
              by : (h < i) ⊎ (i ≤ h) → (h ≡ i - 1) ⊎ (h ≡ i - 1 → ⊥) → Closed (ends links) x (marks rows'') h
              by (inr n) d = closed_grown (ends links) x (marks rows') (queue rows') t (marks rows'') (queue rows'') t' h g (p.done h lh n q)
              by (inl n) (inl d) = rw d c
              by (inl n) (inr d) =
                  absurd (omega (
                    arith,
                    ej,
                    a.lists.next_all (i - 1) h (omega (arith, p.low))
                        (⊎_elim (λ b. b) (λ b. absurd (d (omega arith))) (lt_or_le h (i - 1))) (q ∙ sym (p.own (i - 1) last)),
                  ))

  pub walk_end : (rows' : List (List ℕ)) (i t : ℕ) → SearchWalking links v x tail rows rows' i t → i ≤ 0 → SearchWalked links v x tail rows rows' (Some t)
  walk_end rows' i t p l =
      record {
        long = p.long;
        lists = p.lists;
        found = tt;
        queued = p.queued;
        grown = p.grown;
        closed = λ e le q. p.done e le (omega arith) q;
      }

module _ (x : ℕ) (rows : List (List ℕ)) where
  abbrev first : List (List ℕ)
  first = set rows x (with_mark (get_or rows x []) (x + 1))

  abbrev both : List (List ℕ)
  both = set first 0 (with_place (get_or first 0 []) x)

  pub begin_room : StartAsked x rows → 0 < length first
  begin_room a = omega (arith, a.low, length-set rows x (with_mark (get_or rows x []) (x + 1)))

  pub begun : Begun x rows both
  begun =
      let r : List ℕ = with_mark (get_or rows x []) (x + 1) in
      let q : List ℕ = with_place (get_or first 0 []) x in
      record {
        long = length-set first 0 q ∙ length-set rows x r;
        lists = column_kept 0 first 0 q refl ∙ column_kept 0 rows x r refl;
        marked = column_kept 1 first 0 q refl ∙ column_set 1 rows x r;
        queued = column_set 2 first 0 q ∙ ap (λ (xs : List ℕ). set xs 0 x) (column_kept 2 rows x r refl);
      }

module _ (links : List (List ℕ)) (next : List ℕ) (x : ℕ) (rows rows' : List (List ℕ)) (a : LoopAsked links next x rows) (b : Begun x rows rows') where
  begun_queue : Queued (links_of_rows links rows) x (marks rows') (queue rows') 1
  begun_queue =
      rw (b.marked, b.queued)
      (queue_from (links_of_rows links rows) x (marks rows) (queue rows) a.low (column_long 1 rows) (column_long 2 rows) a.old)

  pub probe_asked : ProbeAsked links next x rows'
  probe_asked =
      let e = b.long in
      let lm : length (marks rows) ≡ length rows = column_long 1 rows in
      record {
        between = rw e a.between;
        few_jobs = omega (arith, a.few_jobs);
        lists = rw b.lists a.lists;
        next_long = a.next_long;
        low = omega (arith, a.low);
        before = rw e a.before;
        started = record {
          long = refl;
          lists = refl;
          within = omega arith;
          queued = rw e begun_queue;
          begun = rw b.marked (get_or-set_same (marks rows) x (x + 1) 0 (omega (arith, a.low)));
          done = λ j e l le q. absurd (omega arith);
        };
      }

  pub probed_back : (rows'' : List (List ℕ)) (r : Bool) → Probed links x rows' rows'' r → Probed links x rows rows'' r
  probed_back rows'' r p =
      let e = b.long in
      record { long = p.long ∙ b.long; lists = p.lists ∙ b.lists; answer = rw e at p.answer; old = p.old }

module _ (links : List (List ℕ)) (next : List ℕ) (x : ℕ) (rows : List (List ℕ)) (a : ProbeAsked links next x rows) where
  module _ (rows' : List (List ℕ)) (tail place : ℕ) (p : Probing links x rows rows' tail place) (l : place < tail) where
    pub probe_low : tail ≤ length rows
    probe_low = queue_low (links_of_rows links rows) x (marks rows') (queue rows') tail p.queued

    pub probe_place : place < length rows'
    probe_place = omega (arith, queue_low (links_of_rows links rows) x (marks rows') (queue rows') tail p.queued, p.long)

    module _ {v : ℕ} (ev : v ≡ get_or (get_or rows' place []) 2 0) where
      job_is : at (queue rows') place ≡ v
      job_is = column_at 2 rows' place ∙ sym ev

      pub probe_asks : WalkAsked links next v x tail rows'
      probe_asks =
          let e = p.long in
          record {
            between = rw e a.between;
            few_jobs = omega (arith, a.few_jobs);
            lists = rw p.lists a.lists;
            next_long = a.next_long;
            low = omega (arith, p.queued.low place l, job_is);
            start = omega (arith, a.low);
            came = rw e (rw job_is at (p.queued.came place l));
            queued = rw e p.queued;
          }

      module _ (rows'' : List (List ℕ)) where
        pub probe_found : SearchWalked links v x tail rows' rows'' None → Probed links x rows rows'' true
        probe_found w =
            let e = p.long in
            record {
              long = w.long ∙ p.long;
              lists = w.lists ∙ p.lists;
              answer =
                  sym ((loops_iff (links_of_rows links rows) x (between_inside (starts links) (ends links) (length rows) a.between)).1
                  (rw e at w.found));
              old = λ q. clash refl q;
            }

        pub probe_on : {t : ℕ} → SearchWalked links v x tail rows' rows'' (Some t) → Probing links x rows rows'' t (place + 1)
        probe_on {t} w =
            let e = p.long in
            let g : Grown x (marks rows') (queue rows') tail (marks rows'') (queue rows'') t = w.grown in
            record {
              long = w.long ∙ p.long;
              lists = w.lists ∙ p.lists;
              within = omega (arith, g.up);
              queued = rw e at w.queued;
              begun = g.seen x p.begun;
              done = λ j h lj lh q. go j h lj lh q g w.closed (lt_or_le j place);
            }
          where
            go : (j h : ℕ) → j < place + 1 → h < length links → at (starts links) h ≡ at (queue rows'') j
                → Grown x (marks rows') (queue rows') tail (marks rows'') (queue rows'') t
                → ((e : ℕ) → e < length links → at (starts links) e ≡ v → Closed (ends links) x (marks rows'') e) → (j < place) ⊎ (place ≤ j)
                → Closed (ends links) x (marks rows'') h
            go j h lj lh q g c (inl m) =
                closed_grown (ends links) x (marks rows') (queue rows') tail (marks rows'') (queue rows'') t h g
                (p.done j h m lh (q ∙ g.stands j (omega arith)))
            go j h lj lh q g c (inr m) =
                let d : j ≡ place = omega arith in
                c h lh (q ∙ ap (at (queue rows'')) d ∙ g.stands place l ∙ job_is)

  pub probe_end : (rows' : List (List ℕ)) (tail place : ℕ) → Probing links x rows rows' tail place → tail ≤ place → Probed links x rows rows' false
  probe_end rows' tail place p l =
      record {
        long = p.long;
        lists = p.lists;
        answer =
            sym (no_loop (starts links) (ends links) (length rows) x (marks rows') (queue rows') tail
            (between_inside (starts links) (ends links) (length rows) a.between) a.before p.queued
            (λ j k lj lk q. p.done j k (omega arith) (omega (arith, column_long 0 links)) q) p.begun);
        old = λ q. p.queued.recent;
      }

module _ (links : List (List ℕ)) (next₀ next : List ℕ) (rows₀ rows₁ rows : List (List ℕ)) (a : SearchAsked links next₀ rows₀)
    (c : Cleared rows₀ rows₁) (p : ThreadMade links next rows₁ rows (length links)) where
  pub seek_asked : SeekAsked links next rows
  seek_asked =
      let e : length rows ≡ length rows₀ = p.long ∙ c.long in
      record {
        between = rw e a.between;
        few_jobs = omega (arith, a.few_jobs);
        started = record {
          long = refl;
          lists = p.lists;
          next_long = p.next_long;
          old = λ y. omega (arith, p.unseen y);
          seeking = seek (loops (links_of_rows links rows)) (length rows);
        };
      }

  pub sought : {x : Option ℕ} → x ≡ lowest_job (links_of_rows links rows) → x ≡ lowest_job (links_of_rows links rows₀)
  sought e = e ∙ ap (λ (n : ℕ). lowest_job (graph_of (starts links) (ends links) n)) (p.long ∙ c.long)

module _ (links : List (List ℕ)) (next : List ℕ) (rows rows' : List (List ℕ)) (x : ℕ) (a : SeekAsked links next rows)
    (p : Searching links next rows rows' x) (l : x < length rows') where
  pub search_asks : LoopAsked links next x rows'
  search_asks =
      let e = p.long in
      record {
        between = rw e a.between;
        few_jobs = omega (arith, a.few_jobs);
        lists = p.lists;
        next_long = p.next_long;
        low = l;
        old = p.old;
        before = rw e p.seeking.before;
      }

  module _ (rows'' : List (List ℕ)) (r : Bool) (w : Probed links x rows' rows'' r) where
    answer : r ≡ loops (links_of_rows links rows) x
    answer = let e = p.long in rw e at w.answer

    pub search_found : r ≡ true → Some x ≡ lowest_job (links_of_rows links rows)
    unfolding lowest_job
    search_found e = found (loops (links_of_rows links rows)) (length rows) x p.seeking (omega (arith, p.long)) (sym answer ∙ e)

    pub search_on : r ≡ false → Searching links next rows rows'' (x + 1)
    search_on e =
        record {
          long = w.long ∙ p.long;
          lists = rw w.lists p.lists;
          next_long = p.next_long;
          old = w.old e;
          seeking = on (loops (links_of_rows links rows)) (length rows) x p.seeking (omega (arith, p.long)) (sym answer ∙ e);
        }

pub search_end : (links : List (List ℕ)) (next : List ℕ) (rows rows' : List (List ℕ)) (x : ℕ) → Searching links next rows rows' x → length rows' ≤ x
    → None ≡ lowest_job (links_of_rows links rows)
unfolding lowest_job
search_end links next rows rows' x p l = nowhere (loops (links_of_rows links rows)) (length rows) x p.seeking (omega (arith, p.long))
