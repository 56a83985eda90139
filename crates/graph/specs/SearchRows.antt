-- The search over rows of jobs: column 0 has the heads of the lists of links, column 1 the marks, column 2 the queue.
use Rattle.std.specs.Prelude.{◌≡◌, Bool, false, List, [], ◌∷◌, ℕ, ◌+◌, ◌≤◌, ◌<◌, length, get_or, set, Option, IfSome, IfNone}
use Rattle.vocabulary.specs.Least.{Seeking}
use Rattle.graph.specs.Graph.{Graph, graph_of, Way, loops}
use Rattle.graph.specs.Column.{column}
use Rattle.graph.specs.Pass.{at}
use Rattle.graph.specs.Cycle.{Between}
use Rattle.graph.specs.Search.{Threaded, Came, Queued}
use Rattle.graph.specs.Search.{Grown, Closed}
use Rattle.graph.specs.JobRows.{starts, ends}

abbrev pub heads : List (List ℕ) → List ℕ
heads rows = column 0 rows

abbrev pub marks : List (List ℕ) → List ℕ
marks rows = column 1 rows

abbrev pub queue : List (List ℕ) → List ℕ
queue rows = column 2 rows

abbrev pub links_of_rows : List (List ℕ) → List (List ℕ) → Graph
links_of_rows links rows = graph_of (starts links) (ends links) (length rows)

abbrev pub no_row : List ℕ
no_row = 0 ∷ 0 ∷ 0 ∷ []

-- a record with another number in one column
abbrev pub with_head : List ℕ → ℕ → List ℕ
with_head r h = h ∷ get_or r 1 0 ∷ get_or r 2 0 ∷ []

abbrev pub with_mark : List ℕ → ℕ → List ℕ
with_mark r m = get_or r 0 0 ∷ m ∷ get_or r 2 0 ∷ []

abbrev pub with_place : List ℕ → ℕ → List ℕ
with_place r y = get_or r 0 0 ∷ get_or r 1 0 ∷ y ∷ []

-- ---- all rows 0
pub record Cleared (rows rows' : List (List ℕ)) : Type 0 where
  pub long : length rows' ≡ length rows
  pub none₀ : (x : ℕ) → at (heads rows') x ≡ 0
  pub none₁ : (x : ℕ) → at (marks rows') x ≡ 0

-- up to row i
pub record Clearing (rows rows' : List (List ℕ)) (i : ℕ) : Type 0 where
  pub within : i ≤ length rows
  pub long : length rows' ≡ length rows
  pub done : (x : ℕ) → x < i → get_or rows' x [] ≡ no_row

-- ---- the links as lists
pub record SearchAsked (links : List (List ℕ)) (next : List ℕ) (rows : List (List ℕ)) : Type 0 where
  pub between : Between (starts links) (ends links) (length rows)
  pub long : length next ≡ length links
  pub few_links : length links ≤ 4096
  pub few_jobs : length rows ≤ 2048

pub record ThreadAsked (links : List (List ℕ)) (next : List ℕ) (rows : List (List ℕ)) : Type 0 where
  pub asked : SearchAsked links next rows
  pub empty : (x : ℕ) → at (heads rows) x ≡ 0
  pub unseen : (x : ℕ) → at (marks rows) x ≡ 0

-- up to link k
pub record ThreadMade (links : List (List ℕ)) (next : List ℕ) (rows rows' : List (List ℕ)) (k : ℕ) : Type 0 where
  pub within : k ≤ length links
  pub long : length rows' ≡ length rows
  pub next_long : length next ≡ length links
  pub lists : Threaded (starts links) (heads rows') next k
  pub unseen : (x : ℕ) → at (marks rows') x ≡ 0

-- ---- one link of the search from x: none where it leads back to x, else how long the queue is then
pub record VisitAsked (links : List (List ℕ)) (k x tail : ℕ) (rows : List (List ℕ)) : Type 0 where
  pub between : Between (starts links) (ends links) (length rows)
  pub few_jobs : length rows ≤ 2048
  pub low : k < length links
  pub start : x < length rows
  pub came : Came (links_of_rows links rows) x (at (starts links) k)
  pub queued : Queued (links_of_rows links rows) x (marks rows) (queue rows) tail

pub record SearchVisited (links : List (List ℕ)) (k x tail : ℕ) (rows rows' : List (List ℕ)) (r : Option ℕ) : Type 0 where
  pub long : length rows' ≡ length rows
  pub lists : heads rows' ≡ heads rows
  pub found : IfNone r (Way (links_of_rows links rows) x x)
  pub queued : IfSome r (λ t. Queued (links_of_rows links rows) x (marks rows') (queue rows') t)
  pub grown : IfSome r (λ t. Grown x (marks rows) (queue rows) tail (marks rows') (queue rows') t)
  pub closed : IfSome r (λ t. Closed (ends links) x (marks rows') k)

-- ---- the links from job v
pub record WalkAsked (links : List (List ℕ)) (next : List ℕ) (v x tail : ℕ) (rows : List (List ℕ)) : Type 0 where
  pub between : Between (starts links) (ends links) (length rows)
  pub few_jobs : length rows ≤ 2048
  pub lists : Threaded (starts links) (heads rows) next (length links)
  pub next_long : length next ≡ length links
  pub low : v < length rows
  pub start : x < length rows
  pub came : Came (links_of_rows links rows) x v
  pub queued : Queued (links_of_rows links rows) x (marks rows) (queue rows) tail

pub record SearchWalked (links : List (List ℕ)) (v x tail : ℕ) (rows rows' : List (List ℕ)) (r : Option ℕ) : Type 0 where
  pub long : length rows' ≡ length rows
  pub lists : heads rows' ≡ heads rows
  pub found : IfNone r (Way (links_of_rows links rows) x x)
  pub queued : IfSome r (λ t. Queued (links_of_rows links rows) x (marks rows') (queue rows') t)
  pub grown : IfSome r (λ t. Grown x (marks rows) (queue rows) tail (marks rows') (queue rows') t)
  pub closed : IfSome r (λ t. (e : ℕ) → e < length links → at (starts links) e ≡ v → Closed (ends links) x (marks rows') e)

-- those from link i on are done, and i is 1 + the next
pub record SearchWalking (links : List (List ℕ)) (v x tail : ℕ) (rows rows' : List (List ℕ)) (i t : ℕ) : Type 0 where
  pub long : length rows' ≡ length rows
  pub lists : heads rows' ≡ heads rows
  pub low : i ≤ length links
  pub own : (j : ℕ) → i ≡ j + 1 → at (starts links) j ≡ v
  pub queued : Queued (links_of_rows links rows) x (marks rows') (queue rows') t
  pub grown : Grown x (marks rows) (queue rows) tail (marks rows') (queue rows') t
  pub done : (e : ℕ) → e < length links → i ≤ e → at (starts links) e ≡ v → Closed (ends links) x (marks rows') e

-- ---- the search from x
pub record StartAsked (x : ℕ) (rows : List (List ℕ)) : Type 0 where
  pub few_jobs : length rows ≤ 2048
  pub low : x < length rows

pub record Begun (x : ℕ) (rows rows' : List (List ℕ)) : Type 0 where
  pub long : length rows' ≡ length rows
  pub lists : heads rows' ≡ heads rows
  pub marked : marks rows' ≡ set (marks rows) x (x + 1)
  pub queued : queue rows' ≡ set (queue rows) 0 x

pub record LoopAsked (links : List (List ℕ)) (next : List ℕ) (x : ℕ) (rows : List (List ℕ)) : Type 0 where
  pub between : Between (starts links) (ends links) (length rows)
  pub few_jobs : length rows ≤ 2048
  pub lists : Threaded (starts links) (heads rows) next (length links)
  pub next_long : length next ≡ length links
  pub low : x < length rows
  pub old : (y : ℕ) → at (marks rows) y ≤ x
  pub before : (y : ℕ) → y < x → loops (links_of_rows links rows) y ≡ false

pub record Probed (links : List (List ℕ)) (x : ℕ) (rows rows' : List (List ℕ)) (r : Bool) : Type 0 where
  pub long : length rows' ≡ length rows
  pub lists : heads rows' ≡ heads rows
  pub answer : r ≡ loops (links_of_rows links rows) x
  pub old : r ≡ false → (y : ℕ) → at (marks rows') y ≤ x + 1

-- the jobs before place `at` of the queue are done
pub record Probing (links : List (List ℕ)) (x : ℕ) (rows rows' : List (List ℕ)) (tail place : ℕ) : Type 0 where
  pub long : length rows' ≡ length rows
  pub lists : heads rows' ≡ heads rows
  pub within : place ≤ tail
  pub queued : Queued (links_of_rows links rows) x (marks rows') (queue rows') tail
  pub begun : at (marks rows') x ≡ x + 1
  pub done : (j e : ℕ) → j < place → e < length links → at (starts links) e ≡ at (queue rows') j → Closed (ends links) x (marks rows') e

pub record ProbeAsked (links : List (List ℕ)) (next : List ℕ) (x : ℕ) (rows : List (List ℕ)) : Type 0 where
  pub between : Between (starts links) (ends links) (length rows)
  pub few_jobs : length rows ≤ 2048
  pub lists : Threaded (starts links) (heads rows) next (length links)
  pub next_long : length next ≡ length links
  pub low : x < length rows
  pub before : (y : ℕ) → y < x → loops (links_of_rows links rows) y ≡ false
  pub started : Probing links x rows rows 1 0

-- ---- job by job
pub record Searching (links : List (List ℕ)) (next : List ℕ) (rows rows' : List (List ℕ)) (x : ℕ) : Type 0 where
  pub long : length rows' ≡ length rows
  pub lists : Threaded (starts links) (heads rows') next (length links)
  pub next_long : length next ≡ length links
  pub old : (y : ℕ) → at (marks rows') y ≤ x
  pub seeking : Seeking (loops (links_of_rows links rows)) (length rows) x

pub record SeekAsked (links : List (List ℕ)) (next : List ℕ) (rows : List (List ℕ)) : Type 0 where
  pub between : Between (starts links) (ends links) (length rows)
  pub few_jobs : length rows ≤ 2048
  pub started : Searching links next rows rows 0
