-- Lists of values, one behind the other.
use Rattle.serde_json.specs.Data.{Items, no_items, item}

abbrev pub items_joined : Items → Items → Items
items_joined no_items rest = rest
items_joined (item d ds) rest = item d (items_joined ds rest)
