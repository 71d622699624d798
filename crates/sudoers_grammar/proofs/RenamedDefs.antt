-- Definitions of aliases in which a name is replaced by another.
use Rattle.std.proofs.Common.{◌≡◌, inl, ℕ, Bool, true, false, ◌&&◌, List, [], ◌∷◌, ◌++◌, map, refl, sym, ap, ◌∙◌}
use Rattle.std.specs.Prelude.{if◌then◌else◌}
use Rattle.std.specs.List.{flat_map}
use Rattle.std.specs.Str.{bytes_eq}
use Rattle.std.proofs.lemmas.Slice.Eq.{bytes_eq-Decides}
use Rattle.sudoers_text.specs.declared.token.TokenKind.{TokenKind}
use Rattle.sudoers_text.specs.declared.token.TokenKind.TheVariants as kind
use Rattle.sudoers_text.specs.Word.{is_name}
use Rattle.sudoers_text.specs.Renamed.{IsDefinableName}
use Rattle.sudoers_text.proofs.Units.{true_conjunction_has_two_true_parts}
use Rattle.sudoers_grammar.specs.declared.node.Kind.{Kind}
use Rattle.sudoers_grammar.specs.declared.node.Kind.TheVariants.{User, Runas, Host, Cmnd}
use Rattle.sudoers_grammar.specs.Piece.{TokenWithBytes, is_word, is_alias_name, alias_kind_of_token}
use Rattle.sudoers_grammar.specs.Node.{Member, Def}
use Rattle.sudoers_grammar.specs.Grammar.{IsAliasMemberList, stop_of_last_member, IsDef, IsAliasLine}
use Rattle.sudoers_grammar.specs.Renamed.{members_with_alias_renamed, alias_offsets_in_members, definition_with_alias_renamed, alias_offsets_in_definition}
use Rattle.sudoers_grammar.proofs.RenamedPieces.{NameChange, alias_renaming_of_change, piece_with_moved_offsets, piece_with_new_name, AreTokensRenamedUpToRest, keep, swap, IsRuleKeptByRenaming, renaming_of_equal_tokens_is_same, moved_mark_is_mark, renaming_keeps_separated_rule}
use Rattle.sudoers_grammar.proofs.RenamedMembers.{renaming_keeps_members}
use Rattle.sudoers_grammar.proofs.RenamedCommands.{renaming_keeps_command_members}

renaming_keeps_member_list : (c : NameChange) (k : Kind) → IsDefinableName c.fresh
    → IsRuleKeptByRenaming (List Member) c (IsAliasMemberList k) (members_with_alias_renamed (alias_renaming_of_change c) k) (alias_offsets_in_members c.old k)
renaming_keeps_member_list c User fresh = renaming_keeps_members c User fresh
renaming_keeps_member_list c Runas fresh = renaming_keeps_members c Runas fresh
renaming_keeps_member_list c Host fresh = renaming_keeps_members c Host fresh
renaming_keeps_member_list c Cmnd fresh = renaming_keeps_command_members c fresh

member_list_is_not_empty : (k : Kind) (ts rest : List TokenWithBytes) → IsAliasMemberList k ts [] rest → ⊥
member_list_is_not_empty User ts rest is = is
member_list_is_not_empty Runas ts rest is = is
member_list_is_not_empty Host ts rest is = is
member_list_is_not_empty Cmnd ts rest is = is

stop_of_renamed_members_is_moved_stop : (c : NameChange) (k : Kind) (m : Member) (ms : List Member)
    → stop_of_last_member (members_with_alias_renamed (alias_renaming_of_change c) k (m ∷ ms)) ≡ c.at (stop_of_last_member (m ∷ ms))
stop_of_renamed_members_is_moved_stop c k m [] = refl
stop_of_renamed_members_is_moved_stop c k m (n ∷ ms) = stop_of_renamed_members_is_moved_stop c k n ms

stop_of_renamed_list_is_moved_stop : (c : NameChange) (k : Kind) (ts rest : List TokenWithBytes) (ms : List Member) → IsAliasMemberList k ts ms rest
    → c.at (stop_of_last_member ms) ≡ stop_of_last_member (members_with_alias_renamed (alias_renaming_of_change c) k ms)
stop_of_renamed_list_is_moved_stop c k ts rest [] is = absurd (member_list_is_not_empty k ts rest is)
stop_of_renamed_list_is_moved_stop c k ts rest (m ∷ ms) is = sym (stop_of_renamed_members_is_moved_stop c k m ms)

word_test_tells_word_kind : (k : TokenKind) → is_word k ≡ true → k ≡ kind.Word
word_test_tells_word_kind kind.Word e = refl
word_test_tells_word_kind kind.Path e = absurd (cc)
word_test_tells_word_kind kind.Quoted e = absurd (cc)
word_test_tells_word_kind kind.Id e = absurd (cc)
word_test_tells_word_kind kind.Punct e = absurd (cc)
word_test_tells_word_kind kind.Comment e = absurd (cc)
word_test_tells_word_kind kind.Arg e = absurd (cc)
word_test_tells_word_kind kind.Digest e = absurd (cc)
word_test_tells_word_kind kind.Name e = absurd (cc)
word_test_tells_word_kind kind.Value e = absurd (cc)
word_test_tells_word_kind kind.Bad e = absurd (cc)

-- the token of a name that is defined
record IsDefinedNameRenamed (c : NameChange) (b : Bool) (t : TokenWithBytes) (name : List ℕ) : Type 0 where
  new : TokenWithBytes
  start : new.start ≡ c.at t.start
  is_name : is_alias_name new ≡ true
  same : (if b then c.fresh else name) ≡ new.text
  renames : (start : ℕ) → start ≡ t.start → (ps : List ℕ) (ts rest us left : List TokenWithBytes) → AreTokensRenamedUpToRest c ps ts rest us left
      → AreTokensRenamedUpToRest c ((if b then start ∷ [] else []) ++ ps) (t ∷ ts) rest (new ∷ us) left

definition_name_token_is_renamed : (c : NameChange) (b : Bool) (t : TokenWithBytes) (name : List ℕ) → IsDefinableName c.fresh → is_alias_name t ≡ true → name ≡ t.text
    → (b ≡ true → c.old.name ≡ name) → IsDefinedNameRenamed c b t name
unfolding is_alias_name
definition_name_token_is_renamed c false t name fresh is text named = record {
  new = piece_with_moved_offsets c t;
  start = refl;
  is_name = is;
  same = text;
  renames = λ start e ps ts rest us left r. keep ps t ts rest us left r;
}
definition_name_token_is_renamed c true t name fresh is text named =
    let word = true_conjunction_has_two_true_parts (is_word t.kind) (is_name t.text) is in
    record {
      new = piece_with_new_name c t;
      start = refl;
      is_name = ap (λ (s : Bool). s && is_name c.fresh) word.0 ∙ fresh.0;
      same = refl;
      renames = λ start e ps ts rest us left r. swap start ps t ts rest us left (word_test_tells_word_kind t.kind word.0) (sym text ∙ sym (named refl)) (inl e) r;
    }

renaming_keeps_definition : (c : NameChange) (k : Kind) → IsDefinableName c.fresh → IsRuleKeptByRenaming Def c (IsDef k) (definition_with_alias_renamed (alias_renaming_of_change c) k) (alias_offsets_in_definition c.old k)
renaming_keeps_definition c k fresh ts rest left d is =
    let members = renaming_keeps_member_list c k fresh is.behind rest left d.members is.members in
    let b = c.old.kinds k && bytes_eq c.old.name d.name in
    let name =
    definition_name_token_is_renamed c b is.name d.name fresh is.is_name is.same_name
    (λ e. (bytes_eq-Decides c.old.name d.name).0 (true_conjunction_has_two_true_parts (c.old.kinds k) (bytes_eq c.old.name d.name) e).1) in
    let us = name.new ∷ piece_with_moved_offsets c is.equals ∷ members.new in
    let ps = alias_offsets_in_members c.old k d.members in
    record {
      new = us;
      is = record {
        name = name.new;
        equals = piece_with_moved_offsets c is.equals;
        behind = members.new;
        split = refl;
        is_name = name.is_name;
        is_equals = moved_mark_is_mark c 61 is.equals is.is_equals;
        members = members.is;
        same_name = name.same;
        start = ap c.at is.start ∙ sym name.start;
        stop = ap c.at is.stop ∙ stop_of_renamed_list_is_moved_stop c k is.behind rest d.members is.members;
      };
      renames = renaming_of_equal_tokens_is_same c (alias_offsets_in_definition c.old k d) ts (is.name ∷ is.equals ∷ is.behind) rest us left is.split
          (name.renames d.start is.start ps (is.equals ∷ is.behind) rest (piece_with_moved_offsets c is.equals ∷ members.new) left
          (keep ps is.equals is.behind rest members.new left members.renames));
    }

moved_piece_keeps_alias_kind : (c : NameChange) (t : TokenWithBytes) → alias_kind_of_token (piece_with_moved_offsets c t) ≡ alias_kind_of_token t
unfolding alias_kind_of_token
moved_piece_keeps_alias_kind c t = refl

pub renaming_keeps_alias_line : (c : NameChange) (k : Kind) → IsDefinableName c.fresh
    → IsRuleKeptByRenaming (List Def) c (IsAliasLine k) (map (definition_with_alias_renamed (alias_renaming_of_change c) k)) (flat_map (alias_offsets_in_definition c.old k))
renaming_keeps_alias_line c k fresh ts rest left ds is =
    let defs =
    renaming_keeps_separated_rule c 58 (IsDef k) (definition_with_alias_renamed (alias_renaming_of_change c) k) (alias_offsets_in_definition c.old k) (renaming_keeps_definition c k fresh) is.behind rest left ds is.defs in
    let ps = flat_map (alias_offsets_in_definition c.old k) ds in
    record {
      new = piece_with_moved_offsets c is.word ∷ defs.new;
      is = record { word = piece_with_moved_offsets c is.word; behind = defs.new; split = refl; is_kind = moved_piece_keeps_alias_kind c is.word ∙ is.is_kind; defs = defs.is };
      renames =
          renaming_of_equal_tokens_is_same c ps ts (is.word ∷ is.behind) rest (piece_with_moved_offsets c is.word ∷ defs.new) left is.split
          (keep ps is.word is.behind rest defs.new left defs.renames);
    }
