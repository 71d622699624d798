-- A plain cut takes a definition or a member out: the line then reads as before but for that one.
use Rattle.std.proofs.Common.{◌≡◌, ℕ, zero, suc, ◌<◌, Bool, true, ◌&&◌, List, [], length, refl, sym, ap, subst, ◌∙◌, arith, Some, None, Option, Ok, Err, Result, slice_get}
use Rattle.std.proofs.lemmas.Bool.{eq-eqb}
use Rattle.std.proofs.lemmas.List.Edits.{length-remove}
use Rattle.std.specs.Prelude.{remove, if◌then◌else◌, ◌==◌}
use Rattle.std.specs.Result.{result_ok}
use Rattle.sudoers_text.specs.Whole.{IsLogicalLine}
use Rattle.sudoers_grammar.specs.declared.fault.LineFault.{LineFault}
use Rattle.sudoers_grammar.specs.declared.fault.LineFault.TheVariants.{Syntax, NoMemory}
use Rattle.sudoers_grammar.specs.declared.node.Kind.{Kind}
use Rattle.sudoers_grammar.specs.declared.node.Kind.TheVariants.{User, Runas, Host, Cmnd}
use Rattle.sudoers_grammar.specs.Node.{Def, Member, Node}
use Rattle.sudoers_grammar.specs.Node as node
use Rattle.sudoers_grammar.specs.Piece.{TokenWithBytes}
use Rattle.sudoers_grammar.specs.Grammar.{Separated, IsDef}
use Rattle.sudoers_grammar.specs.Line.{LineReadsAsNode}
use Rattle.sudoers_line_reader.specs.Outcome.{outcome_of_line, IsOutcomeOfLine as IsLineOutcome}
use Rattle.sudoers_line_rows.specs.Alike.{are_lists_alike, is_same_def}
use Rattle.sudoers_tree.specs.Definition.{is_equal_kind}
use Rattle.sudoers_tree.specs.Single.{reading_of_single_line}
use Rattle.sudoers_edit.specs.Splice.{ByteExtent, extents_of_definitions, extents_of_members, extents_of_definition_members, owned_bytes_start, owned_bytes_stop, is_option_equal_to, are_owned_byte_offsets_in_both_lists, line_without_bytes, definition_without_member, definitions_with_one_changed}
use Rattle.sudoers_edit.specs.declared.extra_item.ItemListKind.{ItemListKind}
use Rattle.sudoers_edit.specs.declared.extra_item.ItemListKind.TheVariants as among
use Rattle.sudoers_edit.specs.internal.OneMore.{IsLineTextWithItemCutOut}
use Rattle.sudoers_edit.specs.internal.Plain.{IsPlainCut, is_kind_of_words, owns_bytes_from_to}
use Rattle.sudoers_edit.specs.internal.LineCuts.{stop_of_def, stop_of_item_at}
use Rattle.sudoers_edit.proofs.Common.{LawsBehindPrunes, logical_line_is_computed_logical_line}
use Rattle.sudoers_edit.proofs.AlikeItems.{alike_definitions_say_same, alike_items_end_alike, alike_lists_are_as_long, item_before_removed_ends_as_before, alike_definitions_end_alike, alike_members_end_alike_up_to}
use Rattle.sudoers_edit.proofs.FrontLists.{IsKindOfWords, AreDefsAlike, definitions_take_fronts}
use Rattle.sudoers_edit.proofs.ItemStops.{start_of_owned_is_stop_before, stop_of_owned_is_its_stop, stop_before_is_start_of_owned, alike_but_one_say_same_but_one, good_one_stands_in_place}
use Rattle.sudoers_edit.proofs.MemberMore.{owned_members_belong_to_some_definition}
use Rattle.sudoers_edit.proofs.InnerCuts.{AreAlikeButOne, HasNameAndMembers, separated_items_lose_tokens_of_item, definition_loses_member}
use Rattle.sudoers_edit.proofs.PlainCuts.{line_with_plain_cut_reads, both_hold}
use Rattle.sudoers_edit.proofs.PruneGoes.{single_reading_is_reading_of_text}
use Rattle.sudoers_edit.proofs.PrunePlaces.{kind_equals_itself}
use Rattle.sudoers_edit.proofs.PrunedAlike.{atom_is_alike_itself}
use Rattle.sudoers_edit.proofs.SpliceLemmas.{option_told_equal_is_number}
use Rattle.sudoers_edit.proofs.TokenCuts.{CanLoseTokens, separated_items_lose_item}
use Rattle.sudoers_edit.proofs.TokenFronts.{AreAlike, EndsAt, AreMembersAlike, stop_of_member}

-- ---- what is read

outcome_of_read_line : LawsBehindPrunes → (text : List ℕ) (n : Node) (r : Result Node LineFault) → LineReadsAsNode text n → IsLineOutcome text r → r ≡ Ok n
outcome_of_read_line laws text n (Ok m) reads is = ap (λ (says : Node). Ok says) (laws.reading text m n is reads)
outcome_of_read_line laws text n (Err (Syntax at why)) reads is = absurd (laws.faultless text n at why reads is)
outcome_of_read_line laws text n (Err NoMemory) reads is = absurd is

-- A logical line reads alone as what its tokens say.
pub read_logical_line_has_single_reading : LawsBehindPrunes → (text : List ℕ) (n : Node) → IsLogicalLine text → LineReadsAsNode text n → reading_of_single_line text ≡ Some n
unfolding reading_of_single_line
read_logical_line_has_single_reading laws text n whole reads =
    ap (λ (t : Bool). if t then result_ok (outcome_of_line text) else None) (logical_line_is_computed_logical_line text whole)
    ∙ ap result_ok (outcome_of_read_line laws text n (outcome_of_line text) reads (laws.outcome text))

-- ---- cuts

-- Such a cut takes the definition or the member out.
abbrev pub TakesItemOut : ItemListKind → ℕ → ℕ → ℕ → List ℕ → Node → Type 0
TakesItemOut among at from to text says = IsLineTextWithItemCutOut among at from to (record { text = text; node = says }) (line_without_bytes from to text)

three_are_true : (a b c : Bool) → a ≡ true → b ≡ true → c ≡ true → (a && b && c) ≡ true
three_are_true a b c e f g = rw (e, f, g) refl

owned_in_both : (at from to : ℕ) (more less : List ByteExtent) → owned_bytes_start at more ≡ Some from → owned_bytes_stop at more ≡ Some to → owned_bytes_start at less ≡ Some from
    → are_owned_byte_offsets_in_both_lists at from to more less ≡ true
owned_in_both at from to more less begins stops fits = rw (begins, stops, fits) (three_are_true (from == from) (to == to) (from == from) (eq-eqb from from refl) (eq-eqb to to refl) (eq-eqb from from refl))

pub plain_cut_takes_definition_out : LawsBehindPrunes → (text : List ℕ) (k : Kind) (defs : List Def) (at from to : ℕ) → IsPlainCut from to text → IsKindOfWords k
    → owned_bytes_start (suc at) (extents_of_definitions defs) ≡ Some from → owned_bytes_stop (suc at) (extents_of_definitions defs) ≡ Some to
    → reading_of_single_line text ≡ Some (node.Alias k defs)
    → (others : List Def) × (reading_of_single_line (line_without_bytes from to text) ≡ Some (node.Alias k others)) × AreAlike (AreDefsAlike from) (remove defs (suc at)) others
plain_cut_takes_definition_out laws text k defs at from to is words begins stops says =
    let first = start_of_owned_is_stop_before (λ (d : Def). (d.start, d.stop)) defs at from begins in
    let last = stop_of_owned_is_its_stop (λ (d : Def). (d.start, d.stop)) defs at to stops in
    let reads = single_reading_is_reading_of_text text (node.Alias k defs) (laws.outcome text) says in
    let lose : (ts rest : List TokenWithBytes) → Separated 58 (IsDef k) ts defs rest → CanLoseTokens from (Separated 58 (IsDef k)) (AreAlike (AreDefsAlike from) (remove defs (suc at))) from to ts rest =
    λ ts rest are. subst (λ (n : ℕ). CanLoseTokens from (Separated 58 (IsDef k)) (AreAlike (AreDefsAlike from) (remove defs (suc at))) from n ts rest) last.0
    (subst (λ (n : ℕ). CanLoseTokens from (Separated 58 (IsDef k)) (AreAlike (AreDefsAlike from) (remove defs (suc at))) n (stop_of_item_at stop_of_def defs (suc at)) ts rest) first.0
    (separated_items_lose_item from 58 (IsDef k) (AreDefsAlike from) stop_of_def (definitions_take_fronts atom_is_alike_itself from k words) at defs ts rest last.1 are)) in
    let y = line_with_plain_cut_reads from to text k defs (AreAlike (AreDefsAlike from) (remove defs (suc at))) is lose reads in
    (y.0, read_logical_line_has_single_reading laws (line_without_bytes from to text) (node.Alias k y.0) y.2 y.1, y.3)

pub plain_cut_is_definition_cut : LawsBehindPrunes → (text : List ℕ) (k : Kind) (defs : List Def) (at from to : ℕ) → IsPlainCut from to text → IsKindOfWords k
    → owned_bytes_start (suc at) (extents_of_definitions defs) ≡ Some from → owned_bytes_stop (suc at) (extents_of_definitions defs) ≡ Some to
    → reading_of_single_line text ≡ Some (node.Alias k defs) → TakesItemOut among.Definitions (suc at) from to text (node.Alias k defs)
plain_cut_is_definition_cut laws text k defs at from to is words begins stops says =
    let y = plain_cut_takes_definition_out laws text k defs at from to is words begins stops says in
    let first = start_of_owned_is_stop_before (λ (d : Def). (d.start, d.stop)) defs at from begins in
    let last = stop_of_owned_is_its_stop (λ (d : Def). (d.start, d.stop)) defs at to stops in
    let kept : stop_of_item_at stop_of_def (remove defs (suc at)) at ≡ from = item_before_removed_ends_as_before stop_of_def defs (suc at) at (omega arith) ∙ first.0 in
    let same : stop_of_item_at stop_of_def y.0 at ≡ from =
    alike_items_end_alike from (AreDefsAlike from) stop_of_def (alike_definitions_end_alike from) (remove defs (suc at)) y.0 at y.2 (omega (arith, kept)) ∙ kept in
    let inside : at < length y.0 = omega (arith, alike_lists_are_as_long (AreDefsAlike from) (remove defs (suc at)) y.0 y.2, length-remove defs (suc at) last.1, last.1) in
    let fits : owned_bytes_start (suc at) (extents_of_definitions y.0) ≡ Some from =
    stop_before_is_start_of_owned (λ (d : Def). (d.start, d.stop)) y.0 at inside ∙ ap (λ (n : ℕ). Some n) same in
    record {
      order = is.order;
      inside = omega (arith, is.inside);
      text_is = refl;
      new = node.Alias k y.0;
      says = y.1;
      more =
          three_are_true (is_equal_kind k k) (are_lists_alike is_same_def (remove defs (suc at)) y.0) _ (kind_equals_itself k) (alike_definitions_say_same from (remove defs (suc at)) y.0 y.2)
          (owned_in_both (suc at) from to (extents_of_definitions defs) (extents_of_definitions y.0) begins stops fits);
    }

pub plain_cut_is_member_cut : LawsBehindPrunes → (text : List ℕ) (k : Kind) (defs : List Def) (def at from to : ℕ) → IsPlainCut from to text → IsKindOfWords k
    → owned_bytes_start (suc at) (extents_of_definition_members (slice_get defs def)) ≡ Some from → owned_bytes_stop (suc at) (extents_of_definition_members (slice_get defs def)) ≡ Some to
    → reading_of_single_line text ≡ Some (node.Alias k defs) → TakesItemOut (among.Members def) (suc at) from to text (node.Alias k defs)
plain_cut_is_member_cut laws text k defs def at from to is words begins_here stops_here says =
    let found = owned_members_belong_to_some_definition (slice_get defs def) (suc at) from begins_here in
    let d : Def = found.0 in
    let extent : Member → ByteExtent = λ (m : Member). (m.start, m.stop) in
    let begins : owned_bytes_start (suc at) (extents_of_members d.members) ≡ Some from = subst (λ (o : Option Def). owned_bytes_start (suc at) (extents_of_definition_members o) ≡ Some from) found.1 begins_here in
    let stops : owned_bytes_stop (suc at) (extents_of_members d.members) ≡ Some to = subst (λ (o : Option Def). owned_bytes_stop (suc at) (extents_of_definition_members o) ≡ Some to) found.1 stops_here in
    let first = start_of_owned_is_stop_before extent d.members at from begins in
    let last = stop_of_owned_is_its_stop extent d.members at to stops in
    let reads = single_reading_is_reading_of_text text (node.Alias k defs) (laws.outcome text) says in
    let Good : Def → Type 0 = HasNameAndMembers from d.name (remove d.members (suc at)) in
    let lose_member : (ts rest : List TokenWithBytes) → IsDef k ts d rest → CanLoseTokens from (IsDef k) Good from to ts rest =
    λ ts rest one. subst (λ (n : ℕ). CanLoseTokens from (IsDef k) Good from n ts rest) last.0
    (subst (λ (n : ℕ). CanLoseTokens from (IsDef k) Good n (stop_of_item_at stop_of_member d.members (suc at)) ts rest) first.0
    (definition_loses_member atom_is_alike_itself from k words at d last.1 ts rest one)) in
    let y = line_with_plain_cut_reads from to text k defs (AreAlikeButOne (AreDefsAlike from) Good def defs) is
    (λ ts rest are. separated_items_lose_tokens_of_item from 58 [] (λ (gone : List TokenWithBytes). EndsAt gone to) (IsDef k) (AreDefsAlike from) stop_of_def Good from (definitions_take_fronts atom_is_alike_itself from k words) d lose_member def defs ts rest found.1 are) reads in
    let e = good_one_stands_in_place (AreDefsAlike from) Good def defs y.0 y.3 in
    let kept : stop_of_item_at stop_of_member (remove d.members (suc at)) at ≡ from = item_before_removed_ends_as_before stop_of_member d.members (suc at) at (omega arith) ∙ first.0 in
    let same : stop_of_item_at stop_of_member e.0.members at ≡ from =
    alike_items_end_alike from (AreMembersAlike from) stop_of_member (alike_members_end_alike_up_to from) (remove d.members (suc at)) e.0.members at e.2.1 (omega (arith, kept)) ∙ kept in
    let inside : at < length e.0.members =
    omega (arith, alike_lists_are_as_long (AreMembersAlike from) (remove d.members (suc at)) e.0.members e.2.1, length-remove d.members (suc at) last.1, last.1) in
    let fits : owned_bytes_start (suc at) (extents_of_definition_members (slice_get y.0 def)) ≡ Some from =
    ap (λ (o : Option Def). owned_bytes_start (suc at) (extents_of_definition_members o)) e.1 ∙ stop_before_is_start_of_owned extent e.0.members at inside ∙ ap (λ (n : ℕ). Some n) same in
    record {
      order = is.order;
      inside = omega (arith, is.inside);
      text_is = refl;
      new = node.Alias k y.0;
      says = read_logical_line_has_single_reading laws (line_without_bytes from to text) (node.Alias k y.0) y.2 y.1;
      more =
          three_are_true (is_equal_kind k k) (are_lists_alike is_same_def (definitions_with_one_changed def (definition_without_member (suc at)) defs) y.0) _ (kind_equals_itself k)
          (alike_but_one_say_same_but_one from (suc at) def d defs y.0 found.1 y.3)
          (owned_in_both (suc at) from to (extents_of_definition_members (slice_get defs def)) (extents_of_definition_members (slice_get y.0 def)) begins_here stops_here fits);
    }

-- ---- as the code asks

pub kind_of_words_is_one : (k : Kind) → is_kind_of_words k ≡ true → IsKindOfWords k
kind_of_words_is_one User h = tt
kind_of_words_is_one Runas h = tt
kind_of_words_is_one Host h = tt
kind_of_words_is_one Cmnd h = absurd (cc)

-- the bytes that the one at a place owns, as they are compared
compared_bytes_are_owned : (at from to : ℕ) (extents : List ByteExtent) → owns_bytes_from_to at from to extents ≡ true → (owned_bytes_start at extents ≡ Some from) × (owned_bytes_stop at extents ≡ Some to)
compared_bytes_are_owned at from to extents h =
    let both = both_hold (is_option_equal_to from (owned_bytes_start at extents)) (is_option_equal_to to (owned_bytes_stop at extents)) h in
    (option_told_equal_is_number from (owned_bytes_start at extents) both.0, option_told_equal_is_number to (owned_bytes_stop at extents) both.1)

pub compared_cut_is_definition_cut : LawsBehindPrunes → (at from to : ℕ) (text : List ℕ) (says : Node) (k : Kind) (defs : List Def) → 0 < at → says ≡ node.Alias k defs → is_kind_of_words k ≡ true
    → owns_bytes_from_to at from to (extents_of_definitions defs) ≡ true → IsPlainCut from to text → reading_of_single_line text ≡ Some says → TakesItemOut among.Definitions at from to text says
compared_cut_is_definition_cut laws zero from to text says k defs later makes words owns is known = absurd (omega (arith, later))
compared_cut_is_definition_cut laws (suc at) from to text says k defs later makes words owns is known =
    let owned = compared_bytes_are_owned (suc at) from to (extents_of_definitions defs) owns in
    subst (TakesItemOut among.Definitions (suc at) from to text) (sym makes)
    (plain_cut_is_definition_cut laws text k defs at from to is (kind_of_words_is_one k words) owned.0 owned.1 (known ∙ ap (λ (n : Node). Some n) makes))

pub compared_cut_is_member_cut : LawsBehindPrunes → (def at from to : ℕ) (text : List ℕ) (says : Node) (k : Kind) (defs : List Def) → 0 < at → says ≡ node.Alias k defs → is_kind_of_words k ≡ true
    → owns_bytes_from_to at from to (extents_of_definition_members (slice_get defs def)) ≡ true → IsPlainCut from to text → reading_of_single_line text ≡ Some says
    → TakesItemOut (among.Members def) at from to text says
compared_cut_is_member_cut laws def zero from to text says k defs later makes words owns is known = absurd (omega (arith, later))
compared_cut_is_member_cut laws def (suc at) from to text says k defs later makes words owns is known =
    let owned = compared_bytes_are_owned (suc at) from to (extents_of_definition_members (slice_get defs def)) owns in
    subst (TakesItemOut (among.Members def) (suc at) from to text) (sym makes)
    (plain_cut_is_member_cut laws text k defs def at from to is (kind_of_words_is_one k words) owned.0 owned.1 (known ∙ ap (λ (n : Node). Some n) makes))
