-- The table of specs/Cases, the twelve cases of the document and the boot state before them, with one statement.
use Rattle.std.specs.Prelude.{◌≡◌, refl, true}
use Rattle.model.specs.Lists.{all_true, any, all, keep, member, share_none, repeat, count, within}
use Rattle.model.specs.Cap.{is_empty, is_untyped, is_cnode, has_badge, rights_of, exponent, bytes, limit, disjoint, same_object, apart, first_row, slots, houses}
use Rattle.model.specs.Tree.{join, entries, roots, below, is_tree, has_children, cap_in, cap_at, leaves, put, edit, graft, without}
use Rattle.model.specs.Check.{◌>>=◌, ◌>>◌, refuse}
use Rattle.model.specs.Tables.{rows, cap_of, follow, grown, later, read, listing, first_of, zero_row, row_of, rows_from, write}
use Rattle.model.specs.Rules.{m_in_range, greatest_r, r_in_range, lengths_fit, control_allowed, size_allowed, place_allowed, third_allowed, fourth_allowed, cap_allowed, zeros, row_allowed, rows_allowed, link_allowed, listed, occupied, table_allowed, housed, pairwise, inside_below, children_allowed, families_allowed, forest_allowed, well_formed}
use Rattle.model.specs.Lookup.{field, guard_missed, taken, picked, descend, lookup}
use Rattle.model.specs.Removal.{lost, follows, grow, removed}
use Rattle.model.specs.Operations.{slot_of, find, vacant, present, with_third, with_fourth, masked, guard_size_in, guard_in, with_guard, datum_barred, given, with_datum, change, full, fresh, copy, moved, move, rotated, rotate, remove, delete, descendants, revoke, size_barred, node, any_taken, start, align_up, new_cap, made, allotted, allot, retype}
use Rattle.model.specs.Request.{concluded, untypeds, booted, boot, operation_of, or_fault, row_named, place, perform, served, applied, carried_out, request}
use Rattle.model.specs.Estate.{brings, rows_below, widen, estate}
use Rattle.model.specs.Cases.{begun, cases, holds, right}

-- Every case is as the document says.
pub as_the_document_says : all (λ c. right begun c.asked c.shown) cases ≡ true
unfolding cases begun right holds all_true any all keep member share_none repeat count within is_empty is_untyped is_cnode has_badge rights_of exponent bytes limit disjoint same_object apart first_row slots houses join entries roots below is_tree has_children cap_in cap_at leaves put edit graft without ◌>>=◌ ◌>>◌ refuse rows cap_of follow grown later read listing first_of zero_row row_of rows_from write m_in_range greatest_r r_in_range lengths_fit control_allowed size_allowed place_allowed third_allowed fourth_allowed cap_allowed zeros row_allowed rows_allowed link_allowed listed occupied table_allowed housed pairwise inside_below children_allowed families_allowed forest_allowed well_formed field guard_missed taken picked descend lookup lost follows grow removed slot_of find vacant present with_third with_fourth masked guard_size_in guard_in with_guard datum_barred given with_datum change full fresh copy moved move rotated rotate remove delete descendants revoke size_barred node any_taken start align_up new_cap made allotted allot retype concluded untypeds booted boot operation_of or_fault row_named place perform served applied carried_out request brings rows_below widen estate
as_the_document_says = refl
