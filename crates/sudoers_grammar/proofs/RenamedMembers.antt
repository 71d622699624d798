-- Members in which a name is replaced by another.
use Rattle.std.proofs.Common.{◌≡◌, inr, ℕ, ◌-◌, Bool, true, false, ◌&&◌, not, List, [], ◌∷◌, ◌++◌, map, length, refl, sym, ap, subst, ◌∙◌, Some}
use Rattle.std.specs.Prelude.{if◌then◌else◌}
use Rattle.std.specs.List.{AllByRecursion}
use Rattle.std.specs.Str.{bytes_eq}
use Rattle.std.proofs.lemmas.Slice.Eq.{bytes_eq-Decides}
use Rattle.sudoers_text.specs.Renamed.{IsDefinableName}
use Rattle.sudoers_grammar.specs.declared.node.Kind.{Kind}
use Rattle.sudoers_grammar.specs.declared.node.Kind.TheVariants.{User, Runas, Host, Cmnd}
use Rattle.sudoers_grammar.specs.declared.node.Atom.{Atom}
use Rattle.sudoers_grammar.specs.declared.node.Atom.TheVariants as atom
use Rattle.sudoers_grammar.specs.Node.{Member}
use Rattle.sudoers_grammar.specs.Piece.{TokenWithBytes}
use Rattle.sudoers_grammar.specs.Atom.{atom_of_token}
use Rattle.sudoers_grammar.specs.Grammar.{IsMark, is_odd_count_of_tokens, start_of_first_token, IsMember, AreMembers}
use Rattle.sudoers_grammar.specs.Renamed.{atom_with_alias_renamed, alias_offsets_in_atom, member_with_alias_renamed, alias_offsets_in_member, members_with_alias_renamed, alias_offsets_in_members}
use Rattle.sudoers_grammar.proofs.AliasWords.{alias_atom_is_word_of_its_name, definable_word_is_alias_in_each_list}
use Rattle.sudoers_grammar.proofs.RenamedPieces.{NameChange, alias_renaming_of_change, piece_with_moved_offsets, piece_with_new_name, AreTokensRenamedUpToRest, done, keep, swap, IsRuleKeptByRenaming, renaming_of_equal_tokens_is_same, moved_mark_is_mark, renaming_keeps_separated_rule, front_of_moved_tokens_is_kept}

pub moved_signs_have_same_odd_count : (c : NameChange) (signs : List TokenWithBytes) → is_odd_count_of_tokens (map (piece_with_moved_offsets c) signs) ≡ is_odd_count_of_tokens signs
moved_signs_have_same_odd_count c [] = refl
moved_signs_have_same_odd_count c (t ∷ signs) = ap not (moved_signs_have_same_odd_count c signs)

pub moved_signs_are_signs : (c : NameChange) (signs : List TokenWithBytes) → AllByRecursion (IsMark 33) signs → AllByRecursion (IsMark 33) (map (piece_with_moved_offsets c) signs)
moved_signs_are_signs c [] all = tt
moved_signs_are_signs c (t ∷ signs) all = (moved_mark_is_mark c 33 t all.0, moved_signs_are_signs c signs all.1)

pub moved_signs_begin_at_moved_start : (c : NameChange) (signs : List TokenWithBytes) (last new : TokenWithBytes) (rest left : List TokenWithBytes) → new.start ≡ c.at last.start
    → start_of_first_token (map (piece_with_moved_offsets c) signs ++ new ∷ left) ≡ c.at (start_of_first_token (signs ++ last ∷ rest))
moved_signs_begin_at_moved_start c [] last new rest left e = e
moved_signs_begin_at_moved_start c (t ∷ signs) last new rest left e = refl

-- the token that a member is, without its signs
pub record IsMemberTokenRenamed (c : NameChange) (k : Kind) (t : TokenWithBytes) (a : Atom) : Type 0 where
  pub new : TokenWithBytes
  pub start : new.start ≡ c.at t.start
  pub stop : new.stop ≡ c.at t.stop
  pub atom : atom_of_token k new ≡ Some (atom_with_alias_renamed (alias_renaming_of_change c) (c.old.kinds k) a)
  pub renames : (rest left : List TokenWithBytes) → AreTokensRenamedUpToRest c (alias_offsets_in_atom c.old (c.old.kinds k) t.stop a) (t ∷ rest) rest (new ∷ left) left

moved_token_has_same_atom : (c : NameChange) (k : Kind) (t : TokenWithBytes) → atom_of_token k (piece_with_moved_offsets c t) ≡ atom_of_token k t
unfolding atom_of_token
moved_token_has_same_atom c User t = refl
moved_token_has_same_atom c Runas t = refl
moved_token_has_same_atom c Host t = refl
moved_token_has_same_atom c Cmnd t = refl

token_without_alias_is_kept_when_renamed : (c : NameChange) (k : Kind) (t : TokenWithBytes) (a : Atom) → atom_of_token k t ≡ Some a → atom_with_alias_renamed (alias_renaming_of_change c) (c.old.kinds k) a ≡ a
    → alias_offsets_in_atom c.old (c.old.kinds k) t.stop a ≡ [] → IsMemberTokenRenamed c k t a
token_without_alias_is_kept_when_renamed c k t a is same none = record {
  new = piece_with_moved_offsets c t;
  start = refl;
  stop = refl;
  atom = moved_token_has_same_atom c k t ∙ is ∙ ap (λ (b : Atom). Some b) (sym same);
  renames =
      λ rest left. subst (λ (ps : List ℕ). AreTokensRenamedUpToRest c ps (t ∷ rest) rest (piece_with_moved_offsets c t ∷ left) left) (sym none)
      (keep [] t rest rest left left (done rest left));
}

alias_token_is_renamed : (c : NameChange) (k : Kind) (t : TokenWithBytes) (w : List ℕ) → IsDefinableName c.fresh → atom_of_token k t ≡ Some (atom.Alias w)
    → IsMemberTokenRenamed c k t (atom.Alias w)
alias_token_is_renamed c k t w fresh is = by_test (c.old.kinds k && bytes_eq c.old.name w) refl
  where
    second : (a b : Bool) → (a && b) ≡ true → b ≡ true
    second true b e = e
    second false b e = absurd (cc)

    by_test : (b : Bool) → (c.old.kinds k && bytes_eq c.old.name w) ≡ b → IsMemberTokenRenamed c k t (atom.Alias w)
    by_test false e =
        token_without_alias_is_kept_when_renamed c k t (atom.Alias w) is (ap (λ (b : Bool). atom.Alias (if b then c.fresh else w)) e)
        (ap (λ (b : Bool). if b then (t.stop - length c.old.name) ∷ [] else []) e)
    by_test true e =
        let word = alias_atom_is_word_of_its_name k t w is in
        let named : t.text ≡ c.old.name = word.1 ∙ sym ((bytes_eq-Decides c.old.name w).0 (second (c.old.kinds k) (bytes_eq c.old.name w) e)) in
        record {
          new = piece_with_new_name c t;
          start = refl;
          stop = refl;
          atom = definable_word_is_alias_in_each_list k (piece_with_new_name c t) word.0 fresh ∙ ap (λ (b : Bool). Some (atom.Alias (if b then c.fresh else w))) (sym e);
          renames =
              λ rest left. subst (λ (b : Bool). AreTokensRenamedUpToRest c (if b then (t.stop - length c.old.name) ∷ [] else []) (t ∷ rest) rest
              (piece_with_new_name c t ∷ left) left) (sym e)
              (swap (t.stop - length c.old.name) [] t rest rest left left word.0 named (inr refl) (done rest left));
        }

pub member_token_is_renamed : (c : NameChange) (k : Kind) (t : TokenWithBytes) (a : Atom) → IsDefinableName c.fresh → atom_of_token k t ≡ Some a → IsMemberTokenRenamed c k t a
member_token_is_renamed c k t (atom.Alias w) fresh is = alias_token_is_renamed c k t w fresh is
member_token_is_renamed c k t atom.All fresh is = token_without_alias_is_kept_when_renamed c k t atom.All is refl refl
member_token_is_renamed c k t (atom.Name n) fresh is = token_without_alias_is_kept_when_renamed c k t (atom.Name n) is refl refl
member_token_is_renamed c k t (atom.Id n) fresh is = token_without_alias_is_kept_when_renamed c k t (atom.Id n) is refl refl
member_token_is_renamed c k t (atom.Group n) fresh is = token_without_alias_is_kept_when_renamed c k t (atom.Group n) is refl refl
member_token_is_renamed c k t (atom.GroupId n) fresh is = token_without_alias_is_kept_when_renamed c k t (atom.GroupId n) is refl refl
member_token_is_renamed c k t (atom.NonUnix n) fresh is = token_without_alias_is_kept_when_renamed c k t (atom.NonUnix n) is refl refl
member_token_is_renamed c k t (atom.Netgroup n) fresh is = token_without_alias_is_kept_when_renamed c k t (atom.Netgroup n) is refl refl
member_token_is_renamed c k t (atom.Host n) fresh is = token_without_alias_is_kept_when_renamed c k t (atom.Host n) is refl refl
member_token_is_renamed c k t (atom.Address n) fresh is = token_without_alias_is_kept_when_renamed c k t (atom.Address n) is refl refl
member_token_is_renamed c k t (atom.Network n m) fresh is = token_without_alias_is_kept_when_renamed c k t (atom.Network n m) is refl refl
member_token_is_renamed c k t atom.Listing fresh is = token_without_alias_is_kept_when_renamed c k t atom.Listing is refl refl
member_token_is_renamed c k t (atom.Path p args) fresh is = token_without_alias_is_kept_when_renamed c k t (atom.Path p args) is refl refl
member_token_is_renamed c k t (atom.Sudoedit args) fresh is = token_without_alias_is_kept_when_renamed c k t (atom.Sudoedit args) is refl refl

pub renaming_keeps_member : (c : NameChange) (k : Kind) → IsDefinableName c.fresh
    → IsRuleKeptByRenaming Member c (IsMember k) (member_with_alias_renamed (alias_renaming_of_change c) k) (alias_offsets_in_member c.old k)
renaming_keeps_member c k fresh ts rest left m is =
    let last = member_token_is_renamed c k is.last m.atom fresh is.atom in
    let us = map (piece_with_moved_offsets c) is.signs ++ last.new ∷ left in
    let there =
    front_of_moved_tokens_is_kept c is.signs (alias_offsets_in_atom c.old (c.old.kinds k) is.last.stop m.atom) (is.last ∷ rest) rest (last.new ∷ left) left
    (last.renames rest left) in
    record {
      new = us;
      is = record {
        signs = map (piece_with_moved_offsets c) is.signs;
        last = last.new;
        split = refl;
        are_signs = moved_signs_are_signs c is.signs is.are_signs;
        atom = last.atom;
        negated = is.negated ∙ sym (moved_signs_have_same_odd_count c is.signs);
        digests = is.digests;
        start = ap c.at (is.start ∙ ap start_of_first_token is.split) ∙ sym (moved_signs_begin_at_moved_start c is.signs is.last last.new rest left last.start);
        stop = ap c.at is.stop ∙ sym last.stop;
      };
      renames =
          subst (λ (n : ℕ). AreTokensRenamedUpToRest c (alias_offsets_in_atom c.old (c.old.kinds k) n m.atom) ts rest us left) (sym is.stop)
          (renaming_of_equal_tokens_is_same c (alias_offsets_in_atom c.old (c.old.kinds k) is.last.stop m.atom) ts (is.signs ++ is.last ∷ rest) rest us left is.split there);
    }

pub renaming_keeps_members : (c : NameChange) (k : Kind) → IsDefinableName c.fresh
    → IsRuleKeptByRenaming (List Member) c (AreMembers k) (members_with_alias_renamed (alias_renaming_of_change c) k) (alias_offsets_in_members c.old k)
renaming_keeps_members c k fresh = renaming_keeps_separated_rule c 44 (IsMember k) (member_with_alias_renamed (alias_renaming_of_change c) k) (alias_offsets_in_member c.old k) (renaming_keeps_member c k fresh)
