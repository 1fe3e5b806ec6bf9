-- How many values there are in plain data.
use Rattle.std.specs.Prelude.{ℕ, ◌+◌}
use Rattle.dscript_value.specs.Data.{Plain, Listed, Object, Function, Items, End, More, Members, Last, Next}
use Rattle.dscript_value.specs.Data.{PlainValues, PlainFields}

abbrev mutual
  pub held_weight : Plain → ℕ
  held_weight (Listed depth items) = items_weight items
  held_weight (Object depth members) = members_weight members
  held_weight (Function callee depth held) = items_weight held
  held_weight _ = 0

  pub items_weight : Items → ℕ
  items_weight End = 0
  items_weight (More x xs) = 1 + held_weight x + items_weight xs

  pub members_weight : Members → ℕ
  members_weight Last = 0
  members_weight (Next name value fs) = 1 + held_weight value + members_weight fs

-- A list is larger than its one piece, and than the lists that it joins.
abbrev pub values_size : PlainValues → ℕ
values_size v = items_weight v.items + items_weight v.items + 1

abbrev pub flat_size : PlainValues → ℕ
flat_size v = items_weight v.items + items_weight v.items

abbrev pub fields_size : PlainFields → ℕ
fields_size f = members_weight f.members + members_weight f.members
