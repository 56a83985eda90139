-- Adjusted deadlines by natural numbers: z less a greatest.
use Rattle.graph.specs.Graph.{Graph}

abbrev pub flip : Graph → Graph
flip g = record { n = g.n; e = g.e; from = g.to; to = g.from }
