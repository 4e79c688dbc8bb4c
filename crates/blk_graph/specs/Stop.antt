-- What a refusal of the graph prints.
use Rattle.std.specs.Prelude.{ℕ, List, codes}
use Rattle.blk_graph.specs.declared.stop.GraphStop.{GraphStop}
use Rattle.blk_graph.specs.declared.stop.GraphStop.TheVariants.{NameTaken, Cycle, InUse, Conflict, TooManyNodes, NoMemory}

abbrev pub stop_text : GraphStop → List ℕ
stop_text NameTaken = codes "the name is taken"
stop_text Cycle = codes "a node would reach itself"
stop_text (InUse _) = codes "the node is in use"
stop_text (Conflict _) = codes "the permissions are in conflict"
stop_text TooManyNodes = codes "there are too many nodes"
stop_text NoMemory = codes "out of memory"
