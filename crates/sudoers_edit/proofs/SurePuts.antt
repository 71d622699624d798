-- A `,` and a word put behind a member of a plain line of aliases: it then reads as before but for one member more.
use Rattle.std.proofs.Common.{◌≡◌, ℕ, zero, suc, ◌+◌, ◌<◌, Bool, true, ◌&&◌, List, [], ◌∷◌, ◌++◌, length, take, drop, refl, sym, ap, subst, ◌∙◌, arith, append_assoc, Some, None, Option, slice_get}
use Rattle.std.specs.Prelude.{◌==◌}
use Rattle.std.specs.List.{list_all}
use Rattle.std.proofs.lemmas.List.{length-append, take-append-drop, take_at, drop_at}
use Rattle.std.proofs.lemmas.Bool.{eq-eqb}
use Rattle.sudoers_text.specs.declared.part.ByteRunKind.TheVariants as rule
use Rattle.sudoers_text.specs.declared.token.TokenKind.TheVariants as kind
use Rattle.sudoers_text.specs.Unit.{is_blank}
use Rattle.sudoers_text.specs.Part.{is_word_byte, leading_run_size}
use Rattle.sudoers_text.specs.Whole.{IsLogicalLine}
use Rattle.sudoers_grammar.specs.declared.node.Atom.{Atom}
use Rattle.sudoers_grammar.specs.declared.node.Kind.{Kind}
use Rattle.sudoers_grammar.specs.declared.node.Kind.TheVariants.{User, Runas, Host, Cmnd}
use Rattle.sudoers_grammar.specs.Node.{Def, Member, Node}
use Rattle.sudoers_grammar.specs.Node as node
use Rattle.sudoers_grammar.specs.Piece.{TokenWithBytes, token_with_bytes}
use Rattle.sudoers_grammar.specs.Atom.{atom_of_token}
use Rattle.sudoers_grammar.specs.Grammar.{IsAliasMemberList, IsDef}
use Rattle.sudoers_grammar.specs.Line.{LineReadsAsNode}
use Rattle.sudoers_line_rows.specs.Alike.{are_lists_alike, is_same_def}
use Rattle.sudoers_tree.specs.Definition.{is_equal_kind}
use Rattle.sudoers_tree.specs.Line.{Line}
use Rattle.sudoers_tree.specs.Single.{reading_of_single_line}
use Rattle.sudoers_edit.specs.declared.extra_item.ItemListKind.TheVariants as among
use Rattle.sudoers_edit.specs.internal.OneMore.{IsLineTextWithItemPutIn}
use Rattle.sudoers_edit.specs.internal.Plain.{CanBeMember, ArePlainBytes, IsPlainCut, IsWordSplice, is_kind_of_words}
use Rattle.sudoers_edit.specs.Splice.{is_option_equal_to, ByteExtent, extents_of_members, extents_of_definition_members, owned_bytes_start, owned_bytes_stop, are_owned_byte_offsets_in_both_lists, line_with_splice, has_one_member_more, definition_without_member, definitions_with_one_changed}
use Rattle.sudoers_edit.specs.internal.LineCuts.{stop_of_def, stop_of_item_at}
use Rattle.sudoers_edit.proofs.Common.{LawsBehindPrunes, inl, inr}
use Rattle.sudoers_edit.proofs.PruneGoes.{single_reading_is_reading_of_text}
use Rattle.sudoers_edit.proofs.PrunedAlike.{atom_is_alike_itself}
use Rattle.sudoers_edit.proofs.SpliceLemmas.{option_told_equal_is_number}
use Rattle.sudoers_edit.proofs.SureCuts.{kind_of_words_is_one, read_logical_line_has_single_reading}
use Rattle.sudoers_edit.proofs.PlainRuns.{run_past_plain_byte}
use Rattle.sudoers_edit.proofs.TokenFronts.{AtomsAreAlikeThemselves, AreMembersAlike, stop_of_member}
use Rattle.sudoers_edit.proofs.FrontLists.{IsKindOfWords, AreDefsAlike, definitions_take_fronts}
use Rattle.sudoers_edit.proofs.TokenCuts.{CanSwapTokens}
use Rattle.sudoers_edit.proofs.InnerCuts.{AreAlikeButOne, separated_items_lose_tokens_of_item, definition_swaps_tokens_of_members}
use Rattle.sudoers_edit.proofs.ItemStops.{start_of_owned_is_stop_before, stop_before_is_start_of_owned, stop_of_item_is_stop_of_owned, good_one_stands_in_place}
use Rattle.sudoers_edit.proofs.AliasHeads.{BeginsWordAliases}
use Rattle.sudoers_edit.proofs.PlainLines.{plain_bytes_and_lf_are_logical_line}
use Rattle.sudoers_edit.proofs.PlainCuts.{all_plain_are_plain, join_of_plain_bytes_is_plain, plain_cut_has_parts}
use Rattle.sudoers_edit.proofs.TokenGains.{AreNone, HasOneGained, IsMemberEndingAt, alias_members_gain_member}
use Rattle.sudoers_edit.proofs.GainItems.{HasNameAndMemberMore, gained_member_ends_there, member_before_gained_ends_as_before, definitions_with_member_more_say_same_without}
use Rattle.sudoers_edit.proofs.GainLines.{line_with_bytes_reads}
use Rattle.sudoers_edit.proofs.WordSplices.{tokens_of_word_splice, mark_token_at, word_token_at, word_splice_stands_before_others, mark_token_is_mark, word_token_has_atom}

plain_parts : (a b : List ℕ) → ArePlainBytes (a ++ b) → ArePlainBytes a × ArePlainBytes b
plain_parts [] b plain = (tt, plain)
plain_parts (x ∷ a) b plain = let later = plain_parts a b plain.1 in ((plain.0, later.0), later.1)

three_are_true : (a b c : Bool) → a ≡ true → b ≡ true → c ≡ true → (a && b && c) ≡ true
three_are_true a b c e f g = rw (e, f, g) refl

owned_in_both : (at from to stop : ℕ) (more less : List ByteExtent) → stop ≡ to → owned_bytes_start at more ≡ Some from → owned_bytes_stop at more ≡ Some stop → owned_bytes_start at less ≡ Some from
    → are_owned_byte_offsets_in_both_lists at from to more less ≡ true
owned_in_both at from to stop more less same begins stops fits =
    rw (begins, stops, fits, same) (three_are_true (from == from) (to == to) (from == from) (eq-eqb from from refl) (eq-eqb to to refl) (eq-eqb from from refl))

-- the definition of which a member owns bytes
owned_members_have_definition : (o : Option Def) (at from : ℕ) → owned_bytes_start (suc at) (extents_of_definition_members o) ≡ Some from → (d : Def) × (o ≡ Some d)
owned_members_have_definition (Some d) at from h = (d, refl)
owned_members_have_definition None at from h = let none : List Member = [] in let x = start_of_owned_is_stop_before (λ (m : Member). (m.start, m.stop)) none at from h in absurd (omega (arith, x.1))

-- a line with a `,` and a word behind a member
word_put_in_parts : AtomsAreAlikeThemselves → (head front gap : List ℕ) (b : ℕ) (more r : List ℕ) (k : Kind) (defs : List Def) (def at : ℕ) (t : TokenWithBytes) (a : Atom) → BeginsWordAliases head → IsKindOfWords k
    → ArePlainBytes (head ++ front) → ArePlainBytes r → leading_run_size rule.Word (r ++ 10 ∷ []) ≡ 0 → list_all is_blank gap ≡ true → ArePlainBytes gap → list_all is_word_byte (b ∷ more) ≡ true → ArePlainBytes (b ∷ more)
    → t.kind ≡ kind.Word → t.text ≡ b ∷ more → atom_of_token k t ≡ Some a
    → owned_bytes_start (suc at) (extents_of_definition_members (slice_get defs def)) ≡ Some (length (head ++ front)) → LineReadsAsNode ((head ++ front) ++ (r ++ 10 ∷ [])) (node.Alias k defs)
    → (others : List Def) × LineReadsAsNode ((head ++ front) ++ ((44 ∷ (gap ++ b ∷ more)) ++ (r ++ 10 ∷ []))) (node.Alias k others)
    × (has_one_member_more def (suc at) (length (head ++ front)) (length (head ++ front) + length (44 ∷ (gap ++ b ∷ more))) (Some (node.Alias k others)) (Some (node.Alias k defs)) ≡ true)
word_put_in_parts self head front gap b more r k defs def at t a begins words plain plain_rest run blanks plain_gap word_bytes plain_word kind_is text_is atom owned is =
    let p : List ℕ = head ++ front in
    let from : ℕ = length p in
    let w : List ℕ = 44 ∷ (gap ++ b ∷ more) in
    let s : List ℕ = r ++ 10 ∷ [] in
    let line : List ℕ = p ++ (w ++ s) in
    let to : ℕ = length (p ++ w) in
    let found = owned_members_have_definition (slice_get defs def) at from owned in
    let d : Def = found.0 in
    let here : owned_bytes_start (suc at) (extents_of_members d.members) ≡ Some from = subst (λ (o : Option Def). owned_bytes_start (suc at) (extents_of_definition_members o) ≡ Some from) found.1 owned in
    let first = start_of_owned_is_stop_before (λ (m : Member). (m.start, m.stop)) d.members at from here in
    let mark : TokenWithBytes = token_with_bytes line (mark_token_at from) in
    let word : TokenWithBytes = token_with_bytes line (word_token_at (from + 1 + length gap) to) in
    let new : List TokenWithBytes = mark ∷ word ∷ [] in
    let Good : Def → Type 0 = HasNameAndMemberMore from to (suc at) d.name d.members in
    let gain_member : (ts rest : List TokenWithBytes) → IsDef k ts d rest → CanSwapTokens from new AreNone (IsDef k) Good from ts rest =
    λ ts rest one. definition_swaps_tokens_of_members from new AreNone k (HasOneGained (AreMembersAlike from) (IsMemberEndingAt to) (suc at) d.members) from d
    (λ us vs are. subst (λ (n : ℕ). CanSwapTokens from new AreNone (IsAliasMemberList k) (HasOneGained (AreMembersAlike from) (IsMemberEndingAt to) (suc at) d.members) n us vs) first.0
    (alias_members_gain_member self from k words mark word a to (mark_token_is_mark p gap (b ∷ more) s) (word_token_has_atom k t a p gap (b ∷ more) s kind_is text_is atom) refl at d.members us vs first.1 are)) ts rest one in
    let run_new : leading_run_size rule.Word (w ++ s) ≡ 0 = run_past_plain_byte 44 ((gap ++ b ∷ more) ++ s) refl in
    let y = line_with_bytes_reads front w r head k defs (AreAlikeButOne (AreDefsAlike from) Good def defs) (tokens_of_word_splice from (length gap) to) begins plain plain_rest run run_new
    (word_splice_stands_before_others p gap b more s blanks plain_gap word_bytes plain_word run)
    (λ ts rest are. separated_items_lose_tokens_of_item from 58 new AreNone (IsDef k) (AreDefsAlike from) stop_of_def Good from (definitions_take_fronts self from k words) d gain_member def defs ts rest found.1 are) is in
    let e = good_one_stands_in_place (AreDefsAlike from) Good def defs y.0 y.2 in
    let last = gained_member_ends_there from to (suc at) d.members e.0.members e.2.1 in
    let before : stop_of_item_at stop_of_member e.0.members at ≡ from =
    member_before_gained_ends_as_before from to at d.members e.0.members e.2.1 (omega (arith, first.0)) ∙ first.0 in
    let starts : owned_bytes_start (suc at) (extents_of_definition_members (slice_get y.0 def)) ≡ Some from =
    ap (λ (o : Option Def). owned_bytes_start (suc at) (extents_of_definition_members o)) e.1
    ∙ stop_before_is_start_of_owned (λ (m : Member). (m.start, m.stop)) e.0.members at (omega (arith, last.1)) ∙ ap (λ (n : ℕ). Some n) before in
    let stops : owned_bytes_stop (suc at) (extents_of_definition_members (slice_get y.0 def)) ≡ Some to =
    ap (λ (o : Option Def). owned_bytes_stop (suc at) (extents_of_definition_members o)) e.1
    ∙ stop_of_item_is_stop_of_owned (λ (m : Member). (m.start, m.stop)) e.0.members at last.1 ∙ ap (λ (n : ℕ). Some n) last.0 in (
      y.0,
      y.1,
      three_are_true (is_equal_kind k k) (are_lists_alike is_same_def (definitions_with_one_changed def (definition_without_member (suc at)) y.0) defs) _ (kind_is_itself k)
          (definitions_with_member_more_say_same_without from to (suc at) def d defs y.0 found.1 y.2)
          (owned_in_both (suc at) from (from + length w) to (extents_of_definition_members (slice_get y.0 def)) (extents_of_definition_members (slice_get defs def)) (omega (arith, length-append p w)) starts stops owned),
    )
  where
    kind_is_itself : (k : Kind) → is_equal_kind k k ≡ true
    kind_is_itself User = refl
    kind_is_itself Runas = refl
    kind_is_itself Host = refl
    kind_is_itself Cmnd = refl

-- ---- as the code asks

-- the parts of such a splice
record IsSplitSplice (splice word : List ℕ) : Type 0 where
  pub gap : List ℕ
  pub first : ℕ
  pub more : List ℕ
  pub word_is : word ≡ first ∷ more
  pub splice_is : splice ≡ 44 ∷ (gap ++ first ∷ more)
  pub blanks : list_all is_blank gap ≡ true
  pub plain_gap : ArePlainBytes gap

word_splice_has_parts : (splice word : List ℕ) → IsWordSplice splice word → IsSplitSplice splice word
word_splice_has_parts splice [] is = absurd (omega (arith, is.some))
word_splice_has_parts splice (b ∷ more) is =
    elim is.lead [
      | inl e ↦ record { gap = []; first = b; more = more; word_is = refl; splice_is = e; blanks = refl; plain_gap = tt }
      | inr e ↦ record { gap = 32 ∷ []; first = b; more = more; word_is = refl; splice_is = e; blanks = refl; plain_gap = (refl, tt) }
    ]

pub compared_put_is_member_put : LawsBehindPrunes → (def at from : ℕ) (splice word : List ℕ) (line : Line) (k : Kind) (defs : List Def) → 0 < at → line.node ≡ node.Alias k defs → is_kind_of_words k ≡ true
    → is_option_equal_to from (owned_bytes_start at (extents_of_definition_members (slice_get defs def))) ≡ true → IsPlainCut from from line.text → IsWordSplice splice word → CanBeMember k word
    → reading_of_single_line line.text ≡ Some line.node → IsLineTextWithItemPutIn (among.Members def) at from splice line (line_with_splice from splice line.text)
compared_put_is_member_put laws def zero from splice word line k defs later makes words owns is put can known = absurd (omega (arith, later))
compared_put_is_member_put laws def (suc at) from splice word line k defs later makes words owns is put can known =
    let x = plain_cut_has_parts from from line.text is in
    let q = word_splice_has_parts splice word put in
    let p : List ℕ = x.head ++ x.front in
    let s : List ℕ = x.rest ++ 10 ∷ [] in
    let w : List ℕ = 44 ∷ (q.gap ++ q.first ∷ q.more) in
    let line_is : line.text ≡ p ++ s = sym (take-append-drop from line.text) ∙ x.text_is in
    let take_is : take from line.text ≡ p = ap (take from) line_is ∙ take_at p s from x.from_is in
    let drop_is : drop from line.text ≡ s = ap (drop from) line_is ∙ drop_at p s from x.from_is in
    let text_is : line_with_splice from splice line.text ≡ p ++ (w ++ s) =
    ap (λ (t : List ℕ). t ++ splice ++ drop from line.text) take_is ∙ ap (λ (t : List ℕ). p ++ splice ++ t) drop_is ∙ ap (λ (t : List ℕ). p ++ t ++ s) q.splice_is ∙ append_assoc p w s in
    let owned : owned_bytes_start (suc at) (extents_of_definition_members (slice_get defs def)) ≡ Some (length p) =
    option_told_equal_is_number from (owned_bytes_start (suc at) (extents_of_definition_members (slice_get defs def))) owns ∙ ap (λ (n : ℕ). Some n) (sym x.from_is) in
    let word_plain : ArePlainBytes (q.first ∷ q.more) = subst ArePlainBytes q.word_is (all_plain_are_plain word put.plain) in
    let reads : LineReadsAsNode (p ++ s) (node.Alias k defs) =
    subst (λ (t : List ℕ). LineReadsAsNode t (node.Alias k defs)) line_is
    (single_reading_is_reading_of_text line.text (node.Alias k defs) (laws.outcome line.text) (known ∙ ap (λ (n : Node). Some n) makes)) in
    let y = word_put_in_parts atom_is_alike_itself x.head x.front q.gap q.first q.more x.rest k defs def at can.0 can.1 x.begins (kind_of_words_is_one k words) x.plain x.plain_rest x.seam_left q.blanks q.plain_gap
    (subst (λ (t : List ℕ). list_all is_word_byte t ≡ true) q.word_is put.words) word_plain can.2 (can.3 ∙ q.word_is) can.4 owned reads in
    let w_plain : ArePlainBytes w = (refl, join_of_plain_bytes_is_plain q.gap (q.first ∷ q.more) q.plain_gap word_plain) in
    let whole : IsLogicalLine (p ++ (w ++ s)) =
    subst IsLogicalLine (append_assoc p (w ++ x.rest) (10 ∷ []) ∙ ap (λ (t : List ℕ). p ++ t) (append_assoc w x.rest (10 ∷ [])))
    (plain_bytes_and_lf_are_logical_line (p ++ (w ++ x.rest)) (join_of_plain_bytes_is_plain p (w ++ x.rest) x.plain (join_of_plain_bytes_is_plain w x.rest w_plain x.plain_rest))) in
    record {
      inside = omega (arith, is.inside);
      text_is = refl;
      new = node.Alias k y.0;
      says = ap reading_of_single_line text_is ∙ read_logical_line_has_single_reading laws (p ++ (w ++ s)) (node.Alias k y.0) whole y.1;
      more =
          subst (λ (n : Node). has_one_member_more def (suc at) from (from + length splice) (Some (node.Alias k y.0)) (Some n) ≡ true) (sym makes)
          (subst (λ (t : List ℕ). has_one_member_more def (suc at) from (from + length t) (Some (node.Alias k y.0)) (Some (node.Alias k defs)) ≡ true) (sym q.splice_is)
          (subst (λ (n : ℕ). has_one_member_more def (suc at) n (n + length w) (Some (node.Alias k y.0)) (Some (node.Alias k defs)) ≡ true) x.from_is y.2));
    }
