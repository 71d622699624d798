-- Rows in tables that grow.
use Rattle.std.proofs.lemmas.Option.{same_Some}
use Rattle.std.proofs.Common.{Option, Some, None, option_map, ◌≡◌, ℕ, ◌-◌, List, [], ◌++◌, length, take, drop, sym, ap, ◌∙◌, append_assoc, append-nil, length-append, arith}
use Rattle.std.specs.List.{slice_range}
use Rattle.std.proofs.Math.Seq.{drop-append_seam, take-append_seam}
use Rattle.sudoers_line_rows.specs.declared.rows.Tables.{Tables}
use Rattle.sudoers_line_rows.specs.Tables.{IsExtendedList, TablesHaveGrown, OptionalRowMeansForGood, RowMeaningLasts}

-- ---- lists that grow

pub list_extends_itself : {X : Type 0} (xs : List X) → IsExtendedList xs xs
list_extends_itself xs = ([], sym (append-nil xs))

pub list_extension_is_transitive : {X : Type 0} (xs ys zs : List X) → IsExtendedList xs ys → IsExtendedList ys zs → IsExtendedList xs zs
list_extension_is_transitive {X} xs ys zs (cs, e) (bs, f) = (cs ++ bs, f ∙ ap (λ (l : List X). l ++ bs) e ∙ append_assoc xs cs bs)

slice_of_middle_part_is_it : {X : Type 0} (xs ys zs : List X) (a b : ℕ) → a ≡ length xs → b ≡ length (xs ++ ys) → slice_range ((xs ++ ys) ++ zs) a b ≡ ys
slice_of_middle_part_is_it {X} xs ys zs a b e f =
    let count : b - a ≡ length ys = omega (arith, length-append xs ys) in
    ap (λ (l : List X). slice_range l a b) (append_assoc xs ys zs)
    ∙ ap (take (b - a)) (ap (λ n. drop n (xs ++ (ys ++ zs))) e ∙ drop-append_seam xs (ys ++ zs))
    ∙ ap (λ n. take n (ys ++ zs)) count
    ∙ take-append_seam ys zs

-- What was appended stands in its range, however the list grows.
pub appended_rows_stand_in_their_range : {X : Type 0} (old new later rows : List X) (a b : ℕ) → new ≡ old ++ rows → a ≡ length old → b ≡ length new → IsExtendedList new later → slice_range later a b ≡ rows
appended_rows_stand_in_their_range {X} old new later rows a b e f g (more, h) =
    ap (λ (l : List X). slice_range l a b) (h ∙ ap (λ (l : List X). l ++ more) e) ∙ slice_of_middle_part_is_it old rows more a b f (g ∙ ap length e)

-- ---- tables that grow

pub tables_have_grown_from_themselves : (t : Tables) → TablesHaveGrown t t
tables_have_grown_from_themselves t = record {
  bytes = list_extends_itself t.bytes.items;
  digests = list_extends_itself t.digests.items;
  members = list_extends_itself t.members.items;
  options = list_extends_itself t.options.items;
  tags = list_extends_itself t.tags.items;
  commands = list_extends_itself t.commands.items;
  groups = list_extends_itself t.groups.items;
  defs = list_extends_itself t.defs.items;
  params = list_extends_itself t.params.items;
}

pub table_growth_is_transitive : (t u v : Tables) → TablesHaveGrown t u → TablesHaveGrown u v → TablesHaveGrown t v
table_growth_is_transitive t u v g h = record {
  bytes = list_extension_is_transitive _ _ _ g.bytes h.bytes;
  digests = list_extension_is_transitive _ _ _ g.digests h.digests;
  members = list_extension_is_transitive _ _ _ g.members h.members;
  options = list_extension_is_transitive _ _ _ g.options h.options;
  tags = list_extension_is_transitive _ _ _ g.tags h.tags;
  commands = list_extension_is_transitive _ _ _ g.commands h.commands;
  groups = list_extension_is_transitive _ _ _ g.groups h.groups;
  defs = list_extension_is_transitive _ _ _ g.defs h.defs;
  params = list_extension_is_transitive _ _ _ g.params h.params;
}

-- ---- what is kept of what may be
pub absent_row_means_none : {R X : Type 0} (view : Tables → R → X) (t : Tables) (o : Option R) (p : Option X) → OptionalRowMeansForGood view t o p → o ≡ None → p ≡ None
absent_row_means_none view t o p keeps none = sym (keeps t (tables_have_grown_from_themselves t)) ∙ ap (option_map (view t)) none

pub given_row_means_its_view : {R X : Type 0} (view : Tables → R → X) (t : Tables) (o : Option R) (p : Option X) (r : R) → OptionalRowMeansForGood view t o p → o ≡ Some r → p ≡ Some (view t r)
given_row_means_its_view view t o p r keeps some = sym (keeps t (tables_have_grown_from_themselves t)) ∙ ap (option_map (view t)) some

pub meaning_of_given_row_lasts : {R X : Type 0} (view : Tables → R → X) (t : Tables) (o : Option R) (p : Option X) (r : R) → OptionalRowMeansForGood view t o p → o ≡ Some r → RowMeaningLasts view t r
meaning_of_given_row_lasts view t o p r keeps some u g = same_Some (view u r) (view t r) (ap (option_map (view u)) (sym some) ∙ keeps u g ∙ sym (keeps t (tables_have_grown_from_themselves t)) ∙ ap (option_map (view t)) some)
