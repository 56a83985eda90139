-- Laws of the definitions in specs/Cycle.antt.
use Rattle.std.specs.Prelude.{◌≡◌, List, ℕ, length}
use Rattle.std.proofs.Common.{sym, ap, arith}
use Rattle.vocabulary.proofs.Least.{least_only}
use Rattle.graph.specs.Graph.{Graph, LinksInside, graph_of, loops, lowest}
use Rattle.graph.specs.Reach.{Free}
use Rattle.graph.proofs.Reach.{free_by}
use Rattle.graph.specs.Sub.{flip}
use Rattle.graph.proofs.Equation.{flip_free}
use Rattle.graph.specs.Pass.{at}
use Rattle.graph.specs.Cycle.{Between, Falling}

pub between_inside : (f t : List ℕ) (n : ℕ) → Between f t n → LinksInside (graph_of f t n)
between_inside f t n l = record { starts = l.starts; ends = l.ends }

-- links turned round
pub between_back : (f t : List ℕ) (n : ℕ) → Between f t n → Between t f n
between_back f t n l =
    record {
      long = sym l.long;
      starts = λ k h. l.ends k (omega (arith, l.long));
      ends = λ k h. l.starts k (omega (arith, l.long));
    }

pub turned : (f t : List ℕ) (n : ℕ) → length t ≡ length f → graph_of t f n ≡ flip (graph_of f t n)
turned f t n e = ap (λ (m : ℕ). record { n = n; e = m; from = at t; to = at f }) e

-- ==== where they fall along each, no job lies on a cycle
pub fallen_free : (f t v : List ℕ) (n : ℕ) → Between f t n → Falling f t v (length f) → Free (graph_of f t n)
fallen_free f t v n l h =
    let g : Graph = graph_of f t n in
    flip_free (flip g) (record { starts = l.ends; ends = l.starts }) (free_by (flip g) (at v) h.each)

pub fallen : (f t v : List ℕ) (n : ℕ) → Between f t n → Falling f t v (length f) → n ≡ lowest (graph_of f t n)
unfolding lowest
fallen f t v n l h =
    least_only (loops (graph_of f t n)) n n
    (record { within = omega arith; before = fallen_free f t v n l h; found = λ q. absurd (omega arith) })
