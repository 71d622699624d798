-- Commands in which a name is replaced by another, with their digests, options and tags.
use Rattle.std.proofs.Common.{◌≡◌, ℕ, Bool, true, false, List, [], ◌∷◌, ◌++◌, map, refl, sym, ap, subst, ◌∙◌, Some, None}
use Rattle.std.specs.Prelude.{if◌then◌else◌, codes}
use Rattle.std.specs.List.{AllByRecursion}
use Rattle.std.specs.Str.{bytes_eq}
use Rattle.sudoers_text.specs.declared.token.TokenKind.{TokenKind}
use Rattle.sudoers_text.specs.declared.token.TokenKind.TheVariants as kind
use Rattle.sudoers_text.specs.Renamed.{IsDefinableName}
use Rattle.sudoers_grammar.specs.declared.node.Kind.TheVariants.{Cmnd}
use Rattle.sudoers_grammar.specs.declared.node.OptionName.{OptionName}
use Rattle.sudoers_grammar.specs.declared.node.Tag.{Tag}
use Rattle.sudoers_grammar.specs.declared.node.Args.{Args}
use Rattle.sudoers_grammar.specs.declared.node.Atom.{Atom}
use Rattle.sudoers_grammar.specs.declared.node.Atom.TheVariants as atom
use Rattle.sudoers_grammar.specs.Piece.{TokenWithBytes, digest_kind_of_token, tag_and_sign_of_token, option_of_token, has_first_byte, has_last_byte}
use Rattle.sudoers_grammar.specs.declared.node.Args.TheVariants.{Pattern}
use Rattle.sudoers_grammar.specs.declared.pattern.PatternSpelling.TheVariants.{Command}
use Rattle.sudoers_grammar.specs.Node.{Digest, Member}
use Rattle.sudoers_grammar.specs.Pattern.{pattern_of_text}
use Rattle.sudoers_grammar.specs.Atom.{atom_of_token, command_atom_of_tokens, command_atom_with_args, args_of_argument_tokens, patterns_each_after_blank, is_command_allowing_digests, option_value_of_token}
use Rattle.sudoers_grammar.specs.Grammar.{Separated, Perhaps, start_of_first_token, stop_of_last_token, IsDigest, IsArg, MayHaveDigests, IsCommand, AreCommands, IsOption, IsTag}
use Rattle.sudoers_grammar.specs.Renamed.{atom_with_alias_renamed, alias_offsets_in_atom, member_with_alias_renamed, alias_offsets_in_member, members_with_alias_renamed, alias_offsets_in_members}
use Rattle.sudoers_grammar.proofs.RenamedPieces.{NameChange, alias_renaming_of_change, piece_with_moved_offsets, AreTokensRenamedUpToRest, done, keep, swap, IsRuleKeptByRenaming, renamings_of_adjacent_parts_are_joined, renaming_of_equal_tokens_is_same, moved_mark_is_mark, renaming_keeps_separated_rule, renaming_keeps_perhaps_rule, front_of_moved_tokens_is_kept, lists_without_names_are_read_again}
use Rattle.sudoers_grammar.proofs.RenamedMembers.{moved_signs_have_same_odd_count, moved_signs_are_signs, moved_signs_begin_at_moved_start, IsMemberTokenRenamed, member_token_is_renamed}

renaming_keeps_digest : (c : NameChange) → IsRuleKeptByRenaming Digest c IsDigest (λ (d : Digest). d) (λ (d : Digest). [])
unfolding digest_kind_of_token
renaming_keeps_digest c ts rest left d is = record {
  new = piece_with_moved_offsets c is.word ∷ piece_with_moved_offsets c is.colon ∷ piece_with_moved_offsets c is.digest ∷ left;
  is = record {
    word = piece_with_moved_offsets c is.word;
    colon = piece_with_moved_offsets c is.colon;
    digest = piece_with_moved_offsets c is.digest;
    split = refl;
    is_kind = is.is_kind;
    is_colon = moved_mark_is_mark c 58 is.colon is.is_colon;
    is_digest = is.is_digest;
    text = is.text;
  };
  renames =
      renaming_of_equal_tokens_is_same c [] ts (is.word ∷ is.colon ∷ is.digest ∷ rest) rest
      (piece_with_moved_offsets c is.word ∷ piece_with_moved_offsets c is.colon ∷ piece_with_moved_offsets c is.digest ∷ left) left is.split
      (front_of_moved_tokens_is_kept c (is.word ∷ is.colon ∷ is.digest ∷ []) [] rest rest left left (done rest left));
}

renaming_keeps_digests : (c : NameChange) → IsRuleKeptByRenaming (List Digest) c (Perhaps (Separated 44 IsDigest)) (λ (ds : List Digest). ds) (λ (ds : List Digest). [])
renaming_keeps_digests c =
    lists_without_names_are_read_again c (Perhaps (Separated 44 IsDigest))
    (renaming_keeps_perhaps_rule c (Separated 44 IsDigest) (λ (d : Digest). d) (λ (d : Digest). [])
    (renaming_keeps_separated_rule c 44 IsDigest (λ (d : Digest). d) (λ (d : Digest). []) (renaming_keeps_digest c)))

pub renaming_keeps_option : (c : NameChange) → IsRuleKeptByRenaming (OptionName × List ℕ) c IsOption (λ o. o) (λ o. [])
unfolding option_of_token option_value_of_token
renaming_keeps_option c ts rest left o is = record {
  new = piece_with_moved_offsets c is.name ∷ piece_with_moved_offsets c is.equals ∷ piece_with_moved_offsets c is.value ∷ left;
  is = record {
    name = piece_with_moved_offsets c is.name;
    equals = piece_with_moved_offsets c is.equals;
    value = piece_with_moved_offsets c is.value;
    split = refl;
    is_name = is.is_name;
    is_equals = moved_mark_is_mark c 61 is.equals is.is_equals;
    is_value = is.is_value;
  };
  renames =
      renaming_of_equal_tokens_is_same c [] ts (is.name ∷ is.equals ∷ is.value ∷ rest) rest
      (piece_with_moved_offsets c is.name ∷ piece_with_moved_offsets c is.equals ∷ piece_with_moved_offsets c is.value ∷ left) left is.split
      (front_of_moved_tokens_is_kept c (is.name ∷ is.equals ∷ is.value ∷ []) [] rest rest left left (done rest left));
}

pub renaming_keeps_tag : (c : NameChange) → IsRuleKeptByRenaming (Tag × Bool) c IsTag (λ o. o) (λ o. [])
unfolding tag_and_sign_of_token
renaming_keeps_tag c ts rest left g is = record {
  new = piece_with_moved_offsets c is.word ∷ piece_with_moved_offsets c is.colon ∷ left;
  is = record {
    word = piece_with_moved_offsets c is.word;
    colon = piece_with_moved_offsets c is.colon;
    split = refl;
    is_tag = is.is_tag;
    is_colon = moved_mark_is_mark c 58 is.colon is.is_colon;
  };
  renames = renaming_of_equal_tokens_is_same c [] ts (is.word ∷ is.colon ∷ rest) rest (piece_with_moved_offsets c is.word ∷ piece_with_moved_offsets c is.colon ∷ left) left is.split
      (front_of_moved_tokens_is_kept c (is.word ∷ is.colon ∷ []) [] rest rest left left (done rest left));
}

-- ---- commands

patterns_of_moved_pieces_are_same : (c : NameChange) (args : List TokenWithBytes) → patterns_each_after_blank (map (piece_with_moved_offsets c) args) ≡ patterns_each_after_blank args
patterns_of_moved_pieces_are_same c [] = refl
patterns_of_moved_pieces_are_same c (a ∷ args) = ap (λ (t : List ℕ). 32 ∷ pattern_of_text Command a.text ++ t) (patterns_of_moved_pieces_are_same c args)

arguments_of_moved_pieces_are_same : (c : NameChange) (a : TokenWithBytes) (args : List TokenWithBytes) → args_of_argument_tokens (piece_with_moved_offsets c a ∷ map (piece_with_moved_offsets c) args) ≡ args_of_argument_tokens (a ∷ args)
arguments_of_moved_pieces_are_same c a [] = refl
arguments_of_moved_pieces_are_same c a (b ∷ args) = ap (λ (t : List ℕ). Pattern (pattern_of_text Command a.text ++ t)) (patterns_of_moved_pieces_are_same c (b ∷ args))

moved_argument_pieces_are_arguments : (c : NameChange) (args : List TokenWithBytes) → AllByRecursion IsArg args → AllByRecursion IsArg (map (piece_with_moved_offsets c) args)
moved_argument_pieces_are_arguments c [] all = tt
moved_argument_pieces_are_arguments c (a ∷ args) all = (all.0, moved_argument_pieces_are_arguments c args all.1)

last_stop_of_moved_pieces_is_moved : (c : NameChange) (t new : TokenWithBytes) (args : List TokenWithBytes) → new.stop ≡ c.at t.stop
    → stop_of_last_token new (map (piece_with_moved_offsets c) args) ≡ c.at (stop_of_last_token t args)
last_stop_of_moved_pieces_is_moved c t new [] e = e
last_stop_of_moved_pieces_is_moved c t new (a ∷ args) e = last_stop_of_moved_pieces_is_moved c a (piece_with_moved_offsets c a) args refl

-- the tokens that a command is, without its digests and signs
record IsCommandRenamed (c : NameChange) (t : TokenWithBytes) (args : List TokenWithBytes) (a : Atom) : Type 0 where
  new : TokenWithBytes
  start : new.start ≡ c.at t.start
  stop : new.stop ≡ c.at t.stop
  atom : command_atom_of_tokens new (map (piece_with_moved_offsets c) args) ≡ Some (atom_with_alias_renamed (alias_renaming_of_change c) (c.old.kinds Cmnd) a)
  renames : (rest left : List TokenWithBytes)
      → AreTokensRenamedUpToRest c (alias_offsets_in_atom c.old (c.old.kinds Cmnd) (stop_of_last_token t args) a) (t ∷ (args ++ rest)) rest (new ∷ (map (piece_with_moved_offsets c) args ++ left)) left

command_without_alias_is_kept_when_renamed : (c : NameChange) (t : TokenWithBytes) (args : List TokenWithBytes) (a : Atom) → command_atom_of_tokens (piece_with_moved_offsets c t) (map (piece_with_moved_offsets c) args) ≡ Some a
    → atom_with_alias_renamed (alias_renaming_of_change c) (c.old.kinds Cmnd) a ≡ a → alias_offsets_in_atom c.old (c.old.kinds Cmnd) (stop_of_last_token t args) a ≡ [] → IsCommandRenamed c t args a
command_without_alias_is_kept_when_renamed c t args a is same none = record {
  new = piece_with_moved_offsets c t;
  start = refl;
  stop = refl;
  atom = is ∙ ap (λ (b : Atom). Some b) (sym same);
  renames =
      λ rest left. subst (λ (ps : List ℕ). AreTokensRenamedUpToRest c ps (t ∷ (args ++ rest)) rest (piece_with_moved_offsets c t ∷ (map (piece_with_moved_offsets c) args ++ left)) left)
      (sym none) (front_of_moved_tokens_is_kept c (t ∷ args) [] rest rest left left (done rest left));
}

-- a command with arguments is no alias
command_with_arguments_is_no_alias : (k : TokenKind) (text : List ℕ) (args : Args) (w : List ℕ) → command_atom_with_args k text args ≡ Some (atom.Alias w) → ⊥
unfolding command_atom_with_args
command_with_arguments_is_no_alias kind.Word text args w e = by_test (bytes_eq text (codes "sudoedit")) e
  where
    by_test : (t : Bool) → (if t then Some (atom.Sudoedit args) else None) ≡ Some (atom.Alias w) → ⊥
    by_test true e = cc
    by_test false e = cc
command_with_arguments_is_no_alias kind.Path text args w e = by_test (has_last_byte 47 text) e
  where
    by_test : (t : Bool) → (if t then None else Some (atom.Path (pattern_of_text Command text) args)) ≡ Some (atom.Alias w) → ⊥
    by_test true e = cc
    by_test false e = cc
command_with_arguments_is_no_alias kind.Quoted text args w e = cc
command_with_arguments_is_no_alias kind.Id text args w e = cc
command_with_arguments_is_no_alias kind.Punct text args w e = cc
command_with_arguments_is_no_alias kind.Comment text args w e = cc
command_with_arguments_is_no_alias kind.Arg text args w e = cc
command_with_arguments_is_no_alias kind.Digest text args w e = cc
command_with_arguments_is_no_alias kind.Name text args w e = cc
command_with_arguments_is_no_alias kind.Value text args w e = cc
command_with_arguments_is_no_alias kind.Bad text args w e = cc

command_with_arguments_is_kept_when_moved : (c : NameChange) (t b : TokenWithBytes) (args : List TokenWithBytes) (a : Atom) → command_atom_of_tokens t (b ∷ args) ≡ Some a
    → command_atom_of_tokens (piece_with_moved_offsets c t) (map (piece_with_moved_offsets c) (b ∷ args)) ≡ Some a
command_with_arguments_is_kept_when_moved c t b args a is = ap (λ (x : Args). if has_first_byte 94 b.text then None else command_atom_with_args t.kind t.text x) (arguments_of_moved_pieces_are_same c b args) ∙ is

command_with_arguments_is_renamed : (c : NameChange) (t b : TokenWithBytes) (args : List TokenWithBytes) (a : Atom) → command_atom_of_tokens t (b ∷ args) ≡ Some a → IsCommandRenamed c t (b ∷ args) a
command_with_arguments_is_renamed c t b args (atom.Alias w) is = absurd (by_test (has_first_byte 94 b.text) is)
  where
    by_test : (s : Bool) → (if s then None else command_atom_with_args t.kind t.text (args_of_argument_tokens (b ∷ args))) ≡ Some (atom.Alias w) → ⊥
    by_test true e = cc
    by_test false e = command_with_arguments_is_no_alias t.kind t.text (args_of_argument_tokens (b ∷ args)) w e
command_with_arguments_is_renamed c t b args atom.All is = command_without_alias_is_kept_when_renamed c t (b ∷ args) atom.All (command_with_arguments_is_kept_when_moved c t b args atom.All is) refl refl
command_with_arguments_is_renamed c t b args (atom.Name n) is = command_without_alias_is_kept_when_renamed c t (b ∷ args) (atom.Name n) (command_with_arguments_is_kept_when_moved c t b args (atom.Name n) is) refl refl
command_with_arguments_is_renamed c t b args (atom.Id n) is = command_without_alias_is_kept_when_renamed c t (b ∷ args) (atom.Id n) (command_with_arguments_is_kept_when_moved c t b args (atom.Id n) is) refl refl
command_with_arguments_is_renamed c t b args (atom.Group n) is = command_without_alias_is_kept_when_renamed c t (b ∷ args) (atom.Group n) (command_with_arguments_is_kept_when_moved c t b args (atom.Group n) is) refl refl
command_with_arguments_is_renamed c t b args (atom.GroupId n) is = command_without_alias_is_kept_when_renamed c t (b ∷ args) (atom.GroupId n) (command_with_arguments_is_kept_when_moved c t b args (atom.GroupId n) is) refl refl
command_with_arguments_is_renamed c t b args (atom.NonUnix n) is = command_without_alias_is_kept_when_renamed c t (b ∷ args) (atom.NonUnix n) (command_with_arguments_is_kept_when_moved c t b args (atom.NonUnix n) is) refl refl
command_with_arguments_is_renamed c t b args (atom.Netgroup n) is = command_without_alias_is_kept_when_renamed c t (b ∷ args) (atom.Netgroup n) (command_with_arguments_is_kept_when_moved c t b args (atom.Netgroup n) is) refl refl
command_with_arguments_is_renamed c t b args (atom.Host n) is = command_without_alias_is_kept_when_renamed c t (b ∷ args) (atom.Host n) (command_with_arguments_is_kept_when_moved c t b args (atom.Host n) is) refl refl
command_with_arguments_is_renamed c t b args (atom.Address n) is = command_without_alias_is_kept_when_renamed c t (b ∷ args) (atom.Address n) (command_with_arguments_is_kept_when_moved c t b args (atom.Address n) is) refl refl
command_with_arguments_is_renamed c t b args (atom.Network n m) is = command_without_alias_is_kept_when_renamed c t (b ∷ args) (atom.Network n m) (command_with_arguments_is_kept_when_moved c t b args (atom.Network n m) is) refl refl
command_with_arguments_is_renamed c t b args atom.Listing is = command_without_alias_is_kept_when_renamed c t (b ∷ args) atom.Listing (command_with_arguments_is_kept_when_moved c t b args atom.Listing is) refl refl
command_with_arguments_is_renamed c t b args (atom.Path p x) is = command_without_alias_is_kept_when_renamed c t (b ∷ args) (atom.Path p x) (command_with_arguments_is_kept_when_moved c t b args (atom.Path p x) is) refl refl
command_with_arguments_is_renamed c t b args (atom.Sudoedit x) is = command_without_alias_is_kept_when_renamed c t (b ∷ args) (atom.Sudoedit x) (command_with_arguments_is_kept_when_moved c t b args (atom.Sudoedit x) is) refl refl

renamed_last_token_is_renamed_command : (c : NameChange) (t : TokenWithBytes) (a : Atom) → IsMemberTokenRenamed c Cmnd t a → IsCommandRenamed c t [] a
unfolding atom_of_token
renamed_last_token_is_renamed_command c t a last = record { new = last.new; start = last.start; stop = last.stop; atom = last.atom; renames = last.renames }

command_without_arguments_is_token_atom : (t : TokenWithBytes) (a : Atom) → command_atom_of_tokens t [] ≡ Some a → atom_of_token Cmnd t ≡ Some a
unfolding atom_of_token
command_without_arguments_is_token_atom t a is = is

command_atom_tokens_are_renamed : (c : NameChange) (t : TokenWithBytes) (args : List TokenWithBytes) (a : Atom) → IsDefinableName c.fresh → command_atom_of_tokens t args ≡ Some a
    → IsCommandRenamed c t args a
command_atom_tokens_are_renamed c t [] a fresh is = renamed_last_token_is_renamed_command c t a (member_token_is_renamed c Cmnd t a fresh (command_without_arguments_is_token_atom t a is))
command_atom_tokens_are_renamed c t (b ∷ args) a fresh is = command_with_arguments_is_renamed c t b args a is

-- a renamed command may have digests where it might
renaming_keeps_command_allowing_digests : (c : NameChange) (b : Bool) (a : Atom) → is_command_allowing_digests a ≡ true → is_command_allowing_digests (atom_with_alias_renamed (alias_renaming_of_change c) b a) ≡ true
renaming_keeps_command_allowing_digests c b (atom.Alias w) is = absurd (cc)
renaming_keeps_command_allowing_digests c b atom.All is = refl
renaming_keeps_command_allowing_digests c b (atom.Name n) is = is
renaming_keeps_command_allowing_digests c b (atom.Id n) is = is
renaming_keeps_command_allowing_digests c b (atom.Group n) is = is
renaming_keeps_command_allowing_digests c b (atom.GroupId n) is = is
renaming_keeps_command_allowing_digests c b (atom.NonUnix n) is = is
renaming_keeps_command_allowing_digests c b (atom.Netgroup n) is = is
renaming_keeps_command_allowing_digests c b (atom.Host n) is = is
renaming_keeps_command_allowing_digests c b (atom.Address n) is = is
renaming_keeps_command_allowing_digests c b (atom.Network n m) is = is
renaming_keeps_command_allowing_digests c b atom.Listing is = is
renaming_keeps_command_allowing_digests c b (atom.Path p x) is = refl
renaming_keeps_command_allowing_digests c b (atom.Sudoedit x) is = is

renaming_keeps_member_with_digests : (c : NameChange) (ds : List Digest) (m : Member) → MayHaveDigests ds m → MayHaveDigests ds (member_with_alias_renamed (alias_renaming_of_change c) Cmnd m)
renaming_keeps_member_with_digests c [] m is = tt
renaming_keeps_member_with_digests c (d ∷ ds) m is = renaming_keeps_command_allowing_digests c (c.old.kinds Cmnd) m.atom is

-- where the first token begins that is read
pub renamed_tokens_begin_at_moved_start : (c : NameChange) (ps : List ℕ) (ts rest us left : List TokenWithBytes) → AreTokensRenamedUpToRest c ps ts rest us left → start_of_first_token left ≡ c.at (start_of_first_token rest)
    → start_of_first_token us ≡ c.at (start_of_first_token ts)
renamed_tokens_begin_at_moved_start c ps ts rest us left (done a b) e = e
renamed_tokens_begin_at_moved_start c ps ts rest us left (keep places t a b x y r) e = refl
renamed_tokens_begin_at_moved_start c ps ts rest us left (swap place places t a b x y k n p r) e = refl

pub renaming_keeps_command_member : (c : NameChange) → IsDefinableName c.fresh → IsRuleKeptByRenaming Member c IsCommand (member_with_alias_renamed (alias_renaming_of_change c) Cmnd) (alias_offsets_in_member c.old Cmnd)
renaming_keeps_command_member c fresh ts rest left m is =
    let last = command_atom_tokens_are_renamed c is.word is.args m.atom fresh is.atom in
    let args = map (piece_with_moved_offsets c) is.args in
    let us = map (piece_with_moved_offsets c) is.signs ++ last.new ∷ (args ++ left) in
    let ps = alias_offsets_in_atom c.old (c.old.kinds Cmnd) (stop_of_last_token is.word is.args) m.atom in
    let there =
    renaming_of_equal_tokens_is_same c ps is.behind (is.signs ++ (is.word ∷ (is.args ++ rest))) rest us left is.split
    (front_of_moved_tokens_is_kept c is.signs ps (is.word ∷ (is.args ++ rest)) rest (last.new ∷ (args ++ left)) left (last.renames rest left)) in
    let digests = renaming_keeps_digests c ts is.behind us m.digests is.digests in
    let begun : start_of_first_token us ≡ c.at (start_of_first_token is.behind) =
    moved_signs_begin_at_moved_start c is.signs is.word last.new (is.args ++ rest) (args ++ left) last.start
    ∙ ap (λ (t : List TokenWithBytes). c.at (start_of_first_token t)) (sym is.split) in
    record {
      new = digests.new;
      is = record {
        behind = us;
        digests = digests.is;
        signs = map (piece_with_moved_offsets c) is.signs;
        word = last.new;
        args = args;
        split = refl;
        are_signs = moved_signs_are_signs c is.signs is.are_signs;
        are_args = moved_argument_pieces_are_arguments c is.args is.are_args;
        atom = last.atom;
        suits = renaming_keeps_member_with_digests c m.digests m is.suits;
        negated = is.negated ∙ sym (moved_signs_have_same_odd_count c is.signs);
        start = ap c.at is.start ∙ sym (renamed_tokens_begin_at_moved_start c [] ts is.behind digests.new us digests.renames begun);
        stop = ap c.at is.stop ∙ sym (last_stop_of_moved_pieces_is_moved c is.word last.new is.args last.stop);
      };
      renames =
          subst (λ (n : ℕ). AreTokensRenamedUpToRest c (alias_offsets_in_atom c.old (c.old.kinds Cmnd) n m.atom) ts rest digests.new left) (sym is.stop)
          (renamings_of_adjacent_parts_are_joined c [] ps ts is.behind rest digests.new us left digests.renames there);
    }

pub renaming_keeps_command_members : (c : NameChange) → IsDefinableName c.fresh
    → IsRuleKeptByRenaming (List Member) c AreCommands (members_with_alias_renamed (alias_renaming_of_change c) Cmnd) (alias_offsets_in_members c.old Cmnd)
renaming_keeps_command_members c fresh = renaming_keeps_separated_rule c 44 IsCommand (member_with_alias_renamed (alias_renaming_of_change c) Cmnd) (alias_offsets_in_member c.old Cmnd) (renaming_keeps_command_member c fresh)
