-- The table of edges, each by computation. Assumes nothing.
use mathlib.Core.Path.{refl}
use Rattle.wire.specs.Nearest.{nearest}
use Rattle.asterix.specs.Multiples.{angle, level, turned, of_wire, on_globe}
use Rattle.asterix.specs.Items.{items, fitting, exportable, to_answer, to_output}
use Rattle.asterix.specs.Edges.{ItemEdges}

pub item-edges : ItemEdges
unfolding to_answer to_output exportable on_globe fitting items of_wire angle level turned nearest
item-edges = record {
  poles = (refl, refl);
  first_multiple = (refl, refl, refl, refl);
  date_line = (refl, refl, refl);
  beside_it = (refl, refl);
  steps = (refl, refl, refl, refl, refl);
  heights = (refl, refl, (refl, refl), (refl, refl));
  places = ((refl, refl), (refl, refl), (refl, refl), (refl, refl));
  lengths = ((refl, refl), (refl, refl), (refl, refl));
}
