-- Rounds for both times at once, over a row of jobs. A job's record is its running time, its release, and how far before a fixed tick it is due.
use Rattle.std.specs.Prelude.{◌≡◌, Bool, List, ℕ, ◌≤◌, ◌<◌, length}
use Rattle.graph.specs.Column.{column}
use Rattle.graph.specs.Pass.{limit, at, Raised, PassingLinks, Settling}
use Rattle.graph.specs.Cycle.{Between}

abbrev pub runs : List (List ℕ) → List ℕ
runs rows = column 0 rows

abbrev pub releases : List (List ℕ) → List ℕ
releases rows = column 1 rows

abbrev pub aheads : List (List ℕ) → List ℕ
aheads rows = column 2 rows

abbrev pub starts : List (List ℕ) → List ℕ
starts links = column 0 links

abbrev pub ends : List (List ℕ) → List ℕ
ends links = column 1 links

-- links between the jobs of a row, whose numbers are low
pub record Ready (links rows : List (List ℕ)) : Type 0 where
  pub between : Between (starts links) (ends links) (length rows)
  pub light : (x : ℕ) → x < length rows → at (runs rows) x ≤ limit
  pub early : (x : ℕ) → x < length rows → at (releases rows) x ≤ limit
  pub late : (x : ℕ) → x < length rows → at (aheads rows) x ≤ limit

-- ---- one link, from job a to job b
pub record Hop (a b : ℕ) (rows : List (List ℕ)) : Type 0 where
  pub from : a < length rows
  pub to : b < length rows
  pub light_from : at (runs rows) a ≤ limit
  pub light_to : at (runs rows) b ≤ limit
  pub early : at (releases rows) a ≤ limit
  pub late : at (aheads rows) b ≤ limit

-- one time, in column c, is raised at job b by that of job a and a's running time; the other time, in column o, and the running times stay
pub record Raises (c o a b : ℕ) (rows rows' : List (List ℕ)) (r : Bool) : Type 0 where
  pub long : length rows' ≡ length rows
  pub same : runs rows' ≡ runs rows
  pub other : column o rows' ≡ column o rows
  pub raised : Raised (runs rows) a b (column c rows) (column c rows') r

-- the release of job b, by job a before it
abbrev pub Delayed : (a b : ℕ) (rows rows' : List (List ℕ)) (r : Bool) → Type 0
Delayed a b rows rows' r = Raises 1 2 a b rows rows' r

-- how far ahead job a is due, by job b after it
abbrev pub Hastened : (a b : ℕ) (rows rows' : List (List ℕ)) (r : Bool) → Type 0
Hastened a b rows rows' r = Raises 2 1 b a rows rows' r

-- both: r is whether one of the two changed something
pub record Hopped (a b : ℕ) (rows rows' : List (List ℕ)) (r : Bool) : Type 0 where
  pub long : length rows' ≡ length rows
  pub same : runs rows' ≡ runs rows
  pub release : Raised (runs rows) a b (releases rows) (releases rows') r
  pub ahead : Raised (runs rows) b a (aheads rows) (aheads rows') r

-- ---- all links once, from the first on or from the last back; k are passed
pub record Sweeps (back : Bool) (links rows rows' : List (List ℕ)) (k : ℕ) (r : Bool) : Type 0 where
  pub long : length rows' ≡ length rows
  pub same : runs rows' ≡ runs rows
  pub release : PassingLinks back (starts links) (ends links) (runs rows) (releases rows) (releases rows') k r
  pub ahead : PassingLinks back (ends links) (starts links) (runs rows) (aheads rows) (aheads rows') k r

-- ---- rounds
pub record Rounds (links rows rows' : List (List ℕ)) (s : ℕ) : Type 0 where
  pub long : length rows' ≡ length rows
  pub same : runs rows' ≡ runs rows
  pub release : Settling (starts links) (ends links) (runs rows) (releases rows) (releases rows') s
  pub ahead : Settling (ends links) (starts links) (runs rows) (aheads rows) (aheads rows') s
