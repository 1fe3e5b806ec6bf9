use Rattle.std.proofs.Common.{◌+◌, ◌*◌, ◌≤◌, length}
use Rattle.dscript_grammar.specs.TypeReading.{read_type}
use Rattle.dscript_parse_tokens.specs.Gives.{kinds}
use Rattle.dscript_parse_tokens.specs.UnionInvariants.{UnionInvariant}
use Rattle.dscript_parse_tokens.proofs.types.+types.Given as goal

abbrev pub decreases-type_node : goal.decreases-type_node
decreases-type_node l = 16 * l.depth.levels + 0

abbrev pub decreases-any_type : goal.decreases-any_type
decreases-any_type l = 16 * l.depth.levels + 15

abbrev pub decreases-union : goal.decreases-union
decreases-union l = 16 * l.depth.levels + 14

abbrev pub decreases-array : goal.decreases-array
decreases-array l = 16 * l.depth.levels + 13

abbrev pub decreases-base : goal.decreases-base
decreases-base l = 16 * l.depth.levels + 12

abbrev pub decreases-function : goal.decreases-function
decreases-function l = 16 * l.depth.levels + 12

abbrev pub decreases-body : goal.decreases-body
decreases-body l = 16 * l.depth.levels + 8

abbrev pub decreases-named : goal.decreases-named
decreases-named l = 16 * l.depth.levels + 11

abbrev pub decreases-enclosed : goal.decreases-enclosed
decreases-enclosed l = 16 * l.depth.levels + 11

abbrev pub decreases-fields : goal.decreases-fields
decreases-fields l = 16 * l.depth.levels + 4

abbrev pub decreases-arguments : goal.decreases-arguments
decreases-arguments l = 16 * l.depth.levels + 10

abbrev pub decreases-ended_member : goal.decreases-ended_member
decreases-ended_member l = 16 * l.depth.levels + 7

abbrev pub decreases-type_list : goal.decreases-type_list
decreases-type_list l = 16 * l.depth.levels + 9

abbrev pub decreases-member : goal.decreases-member
decreases-member l = 16 * l.depth.levels + 6

abbrev pub decreases-method : goal.decreases-method
decreases-method l = 16 * l.depth.levels + 5

abbrev pub decreases-field : goal.decreases-field
decreases-field l = 16 * l.depth.levels + 1

abbrev pub invariant-union-alternatives : goal.invariant-union-alternatives
invariant-union-alternatives l =
    record {
      so_far : UnionInvariant (read_type l.depth.levels) l.depth.levels l.types.items l.height (kinds l.rest) (kinds l.tokens);
      within : l.height ≤ l.depth.levels + 1;
    }

abbrev pub decreases-union-alternatives : goal.decreases-union-alternatives
decreases-union-alternatives l = length (kinds l.rest)
