-- What an induced part is asked about: the links of its graph, and its set. Assumes nothing.
use Rattle.std.specs.Prelude.{ℕ}
use Rattle.rules.specs.Links.{Links}
use Rattle.network.specs.declared.induced.Induced.{Induced}
use Rattle.network.specs.Graphs.{links_of}

abbrev pub links_in : Induced → Links
links_in part = links_of part.graph.now

abbrev pub set_in : Induced → ℕ
set_in part = part.set.word
