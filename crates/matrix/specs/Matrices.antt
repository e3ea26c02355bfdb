-- What a matrix means, and that it is never full. Assumes nothing.
use Rattle.std.specs.Prelude.{◌≡◌, ℕ, ◌<◌, false, T, ◌≢◌}
use Rattle.rules.specs.Sets.{inside}
use Rattle.rules.specs.Links.{Links, LawfulLinks, link_count}
use Rattle.network.specs.Graphs as graphs
use Rattle.matrix.specs.declared.matrix.Matrix.{Matrix}

-- how many members it has, and which are linked
abbrev pub members_of : Matrix → ℕ
members_of m = graphs.members_of m.graph

abbrev pub links_of : Matrix → Links
links_of m = graphs.links_of m.graph

-- the most links that it holds
abbrev pub room : ℕ
room = 2016

-- two members that are not linked leave room for their link
abbrev pub NeverFull : Type 0
NeverFull = (n a b : ℕ) (l : Links) → LawfulLinks n l → T (inside n a) → T (inside n b) → (a ≢ b) → l a b ≡ false → link_count n l < room
