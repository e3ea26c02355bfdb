-- The small network that each example is. Assumes nothing.
use Rattle.rules.specs.Worked.{SmallNetwork, star, prism, two_rows, path}
use Rattle.worked.specs.declared.example.Example.{Example}
use Rattle.worked.specs.declared.example.Example.TheVariants.{Star, Prism, TwoRows, Path}

abbrev pub network_of : Example → SmallNetwork
network_of Star = star
network_of Prism = prism
network_of TwoRows = two_rows
network_of Path = path
