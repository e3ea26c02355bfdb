-- What a graph says: how many members there are, and which are linked. Assumes nothing.
use Rattle.std.specs.Prelude.{ℕ}
use Rattle.rules.specs.Links.{Links}
use Rattle.network.specs.declared.graph.Graph.{Graph}
use Rattle.network.specs.Rows.{adjacent}

abbrev pub members_of : Graph → ℕ
members_of g = g.members

abbrev pub links_of : Graph → Links
links_of g = adjacent g.rows
