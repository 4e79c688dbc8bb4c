-- Mappings and the entries of L2 tables.
use Rattle.q2_format.specs.declared.entries.L2Entry.{L2Entry}
use Rattle.q2_format.specs.declared.entries.L2Entry.TheVariants as entry
use Rattle.q2_tables.specs.declared.mapping.Mapping.{Mapping}
use Rattle.q2_tables.specs.declared.mapping.Mapping.TheVariants.{Unallocated, Zero, Host}

-- the L2 entry that says so
abbrev pub entry_of : Mapping → L2Entry
entry_of Unallocated = entry.Unallocated
entry_of (Zero host) = entry.Zero host
entry_of (Host host) = entry.Host host
