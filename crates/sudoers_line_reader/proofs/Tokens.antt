-- What one token is excludes what it isn't.
use Rattle.std.proofs.Common.{◌≡◌, ℕ, Bool, true, false, ◌&&◌, ◌==◌, List, [], ◌∷◌, drop, codes, bytes_eq, nat_eq, if◌then◌else◌, Option, Some, None, option_map, refl, sym, ap, ◌∙◌, eqb-true, ap₂, ◌++◌}
use Rattle.std.specs.List.{AllByRecursion, starts_with}
use Rattle.std.proofs.lemmas.Bool.{and_parts}
use Rattle.std.proofs.lemmas.Slice.Eq.{bytes_eq-Decides}
use Rattle.sudoers_text.specs.declared.token.TokenKind.{TokenKind}
use Rattle.sudoers_text.specs.declared.token.TokenKind.TheVariants as kind
use Rattle.sudoers_grammar.specs.declared.node.Kind.{Kind}
use Rattle.sudoers_grammar.specs.declared.node.Kind.TheVariants.{User, Runas, Host, Cmnd}
use Rattle.sudoers_grammar.specs.declared.node.OptionName.{OptionName}
use Rattle.sudoers_grammar.specs.declared.node.Tag.{Tag}
use Rattle.sudoers_grammar.specs.declared.node.DigestKind.{DigestKind}
use Rattle.sudoers_grammar.specs.declared.node.Operator.{Operator}
use Rattle.sudoers_grammar.specs.declared.node.Atom.{Atom}
use Rattle.sudoers_grammar.specs.Piece.{TokenWithBytes, is_punct, is_word, is_arg, is_parameter_name_kind, is_comment, is_mark_of_byte, is_given_word, value_of_matching_row, meaning_of_token_word, alias_kinds_by_keyword, alias_kind_of_token, include_is_dir_by_word, include_is_dir_of_token, options_by_name, option_of_token, tags_by_word, tag_and_sign_of_word, tag_and_sign_of_token, digest_kinds_by_word, digest_kind_of_token, operators_by_mark, operator_of_token}
use Rattle.sudoers_grammar.specs.Atom.{atom_of_token, user_atom_of_token, host_atom_of_token, command_atom_without_args, command_atom_of_word}
use Rattle.sudoers_grammar.specs.Grammar.{is_defaults}

-- ---- tests

-- what a test had to say for its first part to be taken
pub some_of_first_branch_has_true_test : {X : Type 0} (b : Bool) (o : Option X) (x : X) → (if b then o else None) ≡ Some x → (b ≡ true) × (o ≡ Some x)
some_of_first_branch_has_true_test true o x e = (refl, e)
some_of_first_branch_has_true_test false o x e = absurd cc

pub some_of_second_branch_has_false_test : {X : Type 0} (b : Bool) (o : Option X) (x : X) → (if b then None else o) ≡ Some x → (b ≡ false) × (o ≡ Some x)
some_of_second_branch_has_false_test true o x e = absurd cc
some_of_second_branch_has_false_test false o x e = (refl, e)

-- ---- kinds of tokens

-- a kind of token that a member of a list, or a command, can be
abbrev pub is_kind_of_member_token : TokenKind → Bool
is_kind_of_member_token kind.Word = true
is_kind_of_member_token kind.Quoted = true
is_kind_of_member_token kind.Id = true
is_kind_of_member_token kind.Path = true
is_kind_of_member_token k = false

pub kind_of_member_token_is_no_punct : (k : TokenKind) → is_kind_of_member_token k ≡ true → is_punct k ≡ false
kind_of_member_token_is_no_punct kind.Punct e = absurd cc
kind_of_member_token_is_no_punct k e = refl

pub kind_of_member_token_is_no_comment : (k : TokenKind) → is_kind_of_member_token k ≡ true → is_comment k ≡ false
kind_of_member_token_is_no_comment kind.Comment e = absurd cc
kind_of_member_token_is_no_comment k e = refl

pub punct_test_implies_punct_kind : (k : TokenKind) → is_punct k ≡ true → k ≡ kind.Punct
punct_test_implies_punct_kind kind.Punct e = refl
punct_test_implies_punct_kind k e = absurd cc

pub word_test_implies_word_kind : (k : TokenKind) → is_word k ≡ true → k ≡ kind.Word
word_test_implies_word_kind kind.Word e = refl
word_test_implies_word_kind k e = absurd cc

pub parameter_name_test_implies_name_kind : (k : TokenKind) → is_parameter_name_kind k ≡ true → k ≡ kind.Name
parameter_name_test_implies_name_kind kind.Name e = refl
parameter_name_test_implies_name_kind k e = absurd cc

-- ---- marks
pub mark_has_punct_kind : (b : ℕ) (t : TokenWithBytes) → is_mark_of_byte b t ≡ true → t.kind ≡ kind.Punct
unfolding is_mark_of_byte
mark_has_punct_kind b t e = punct_test_implies_punct_kind t.kind (and_parts (is_punct t.kind) (bytes_eq t.text (b ∷ [])) e).0

pub mark_has_its_byte_as_text : (b : ℕ) (t : TokenWithBytes) → is_mark_of_byte b t ≡ true → t.text ≡ b ∷ []
unfolding is_mark_of_byte
mark_has_its_byte_as_text b t e = (bytes_eq-Decides t.text (b ∷ [])).0 (and_parts (is_punct t.kind) (bytes_eq t.text (b ∷ [])) e).1

-- a token of another kind is no mark
pub token_without_punct_kind_is_no_mark : (b : ℕ) (t : TokenWithBytes) → is_punct t.kind ≡ false → is_mark_of_byte b t ≡ false
unfolding is_mark_of_byte
token_without_punct_kind_is_no_mark b t e = ap (λ (x : Bool). x && bytes_eq t.text (b ∷ [])) e

-- one mark is no other
pub mark_is_no_other_mark : (a b : ℕ) (t : TokenWithBytes) → is_mark_of_byte a t ≡ true → (a == b) ≡ false → is_mark_of_byte b t ≡ false
unfolding is_mark_of_byte
mark_is_no_other_mark a b t e ne = rw (mark_has_its_byte_as_text a t e, mark_has_punct_kind a t e) (ap (λ (x : Bool). x && true) ne)

pub mark_is_no_comment : (b : ℕ) (t : TokenWithBytes) → is_mark_of_byte b t ≡ true → is_comment t.kind ≡ false
mark_is_no_comment b t e = ap is_comment (mark_has_punct_kind b t e)

pub mark_is_no_argument : (b : ℕ) (t : TokenWithBytes) → is_mark_of_byte b t ≡ true → is_arg t.kind ≡ false
mark_is_no_argument b t e = ap is_arg (mark_has_punct_kind b t e)

-- ---- words

pub token_with_word_meaning_has_word_kind : {X : Type 0} (says : List ℕ → Option X) (t : TokenWithBytes) (x : X) → meaning_of_token_word says t ≡ Some x → t.kind ≡ kind.Word
token_with_word_meaning_has_word_kind says t x e = word_test_implies_word_kind t.kind (some_of_first_branch_has_true_test (is_word t.kind) (says t.text) x e).0

pub word_meaning_is_that_of_text : {X : Type 0} (says : List ℕ → Option X) (t : TokenWithBytes) (x : X) → meaning_of_token_word says t ≡ Some x → says t.text ≡ Some x
word_meaning_is_that_of_text says t x e = (some_of_first_branch_has_true_test (is_word t.kind) (says t.text) x e).1

-- what is no word says nothing as a word
pub other_kind_of_token_has_no_word_meaning : {X : Type 0} (says : List ℕ → Option X) (t : TokenWithBytes) → is_word t.kind ≡ false → meaning_of_token_word says t ≡ None
other_kind_of_token_has_no_word_meaning says t e = ap (λ (b : Bool). if b then says t.text else None) e

-- as much as its text says nothing
pub text_without_meaning_has_no_word_meaning : {X : Type 0} (says : List ℕ → Option X) (t : TokenWithBytes) → says t.text ≡ None → meaning_of_token_word says t ≡ None
text_without_meaning_has_no_word_meaning says t e = of_bool (is_word t.kind)
  where
    of_bool : (b : Bool) → (if b then says t.text else None) ≡ None
    of_bool true = e
    of_bool false = refl

matching_row_or_later_has_property : {X Y : Type 0} (f : List ℕ → Y) (y : Y) (w v : List ℕ) (z x : X) (o : Option X) (b : Bool) → bytes_eq w v ≡ b → f v ≡ y
    → (o ≡ Some x → f w ≡ y) → (if b then Some z else o) ≡ Some x → f w ≡ y
matching_row_or_later_has_property f y w v z x o true same at later e = ap f ((bytes_eq-Decides w v).0 same) ∙ at
matching_row_or_later_has_property f y w v z x o false same at later e = later e

-- what holds of each word of a table holds of a word that is found there
pub word_found_in_table_has_row_property : {X Y : Type 0} (f : List ℕ → Y) (y : Y) (rows : List (List ℕ × X)) (w : List ℕ) (x : X)
    → AllByRecursion (λ row. f row.0 ≡ y) rows → value_of_matching_row rows w ≡ Some x → f w ≡ y
word_found_in_table_has_row_property f y [] w x all e = absurd cc
word_found_in_table_has_row_property f y (row ∷ rows) w x all e =
    matching_row_or_later_has_property f y w row.0 row.1 x (value_of_matching_row rows w) (bytes_eq w row.0) refl all.0 (word_found_in_table_has_row_property f y rows w x all.1) e

pub excluded_meaning_is_none : {X Y : Type 0} (o : Option X) (p : Option Y) (y : Y) → ((x : X) → o ≡ Some x → p ≡ None) → p ≡ Some y → o ≡ None
excluded_meaning_is_none None p y none e = refl
excluded_meaning_is_none (Some x) p y none e = absurd (let n = none x refl in cc)

-- ---- the words that begin a line

pub include_word_is_no_alias_kind : (t : TokenWithBytes) (dir : Bool) → include_is_dir_of_token t ≡ Some dir → alias_kind_of_token t ≡ None
unfolding include_is_dir_of_token alias_kind_of_token
include_word_is_no_alias_kind t dir e =
    text_without_meaning_has_no_word_meaning (value_of_matching_row alias_kinds_by_keyword) t
    (word_found_in_table_has_row_property (value_of_matching_row alias_kinds_by_keyword) None include_is_dir_by_word t.text dir (search) (word_meaning_is_that_of_text (value_of_matching_row include_is_dir_by_word) t dir e))

pub defaults_token_has_word_kind : (t : TokenWithBytes) → is_defaults t ≡ true → t.kind ≡ kind.Word
unfolding is_given_word
defaults_token_has_word_kind t e = word_test_implies_word_kind t.kind (and_parts (is_word t.kind) (bytes_eq t.text (codes "Defaults")) e).0

defaults_token_has_text_defaults : (t : TokenWithBytes) → is_defaults t ≡ true → t.text ≡ codes "Defaults"
unfolding is_given_word
defaults_token_has_text_defaults t e = (bytes_eq-Decides t.text (codes "Defaults")).0 (and_parts (is_word t.kind) (bytes_eq t.text (codes "Defaults")) e).1

pub defaults_token_is_no_alias_kind : (t : TokenWithBytes) → is_defaults t ≡ true → alias_kind_of_token t ≡ None
unfolding alias_kind_of_token
defaults_token_is_no_alias_kind t e = text_without_meaning_has_no_word_meaning (value_of_matching_row alias_kinds_by_keyword) t (ap (value_of_matching_row alias_kinds_by_keyword) (defaults_token_has_text_defaults t e))

pub defaults_token_is_no_include : (t : TokenWithBytes) → is_defaults t ≡ true → include_is_dir_of_token t ≡ None
unfolding include_is_dir_of_token
defaults_token_is_no_include t e = text_without_meaning_has_no_word_meaning (value_of_matching_row include_is_dir_by_word) t (ap (value_of_matching_row include_is_dir_by_word) (defaults_token_has_text_defaults t e))

-- ---- members of lists, and commands

user_atom_has_kind_of_member_token : (k : TokenKind) (text : List ℕ) (a : Atom) → user_atom_of_token k text ≡ Some a → is_kind_of_member_token k ≡ true
unfolding user_atom_of_token
user_atom_has_kind_of_member_token kind.Word text a e = refl
user_atom_has_kind_of_member_token kind.Quoted text a e = refl
user_atom_has_kind_of_member_token kind.Id text a e = refl
user_atom_has_kind_of_member_token k text a e = absurd cc

host_atom_has_kind_of_member_token : (k : TokenKind) (text : List ℕ) (a : Atom) → host_atom_of_token k text ≡ Some a → is_kind_of_member_token k ≡ true
unfolding host_atom_of_token
host_atom_has_kind_of_member_token kind.Word text a e = refl
host_atom_has_kind_of_member_token kind.Quoted text a e = refl
host_atom_has_kind_of_member_token k text a e = absurd cc

pub command_atom_has_kind_of_member_token : (k : TokenKind) (text : List ℕ) (a : Atom) → command_atom_without_args k text ≡ Some a → is_kind_of_member_token k ≡ true
unfolding command_atom_without_args
command_atom_has_kind_of_member_token kind.Word text a e = refl
command_atom_has_kind_of_member_token kind.Path text a e = refl
command_atom_has_kind_of_member_token k text a e = absurd cc

-- an atom's token is a word, quoted, an ID or a path
pub atom_of_token_has_kind_of_member_token : (k : Kind) (t : TokenWithBytes) (a : Atom) → atom_of_token k t ≡ Some a → is_kind_of_member_token t.kind ≡ true
unfolding atom_of_token
atom_of_token_has_kind_of_member_token User t a e = user_atom_has_kind_of_member_token t.kind t.text a e
atom_of_token_has_kind_of_member_token Runas t a e = user_atom_has_kind_of_member_token t.kind t.text a e
atom_of_token_has_kind_of_member_token Host t a e = host_atom_has_kind_of_member_token t.kind t.text a e
atom_of_token_has_kind_of_member_token Cmnd t a e = command_atom_has_kind_of_member_token t.kind t.text a e

pub member_token_is_no_mark : (b : ℕ) (t : TokenWithBytes) → is_kind_of_member_token t.kind ≡ true → is_mark_of_byte b t ≡ false
member_token_is_no_mark b t e = token_without_punct_kind_is_no_mark b t (kind_of_member_token_is_no_punct t.kind e)

-- ---- the words before a command

word_starting_with_no_is_no_and_rest : (w : List ℕ) → starts_with nat_eq w (codes "NO") ≡ true → w ≡ codes "NO" ++ drop 2 w
word_starting_with_no_is_no_and_rest [] e = absurd cc
word_starting_with_no_is_no_and_rest (a ∷ []) e = absurd (let f = (and_parts (78 == a) false e).1 in cc)
word_starting_with_no_is_no_and_rest (a ∷ b ∷ w) e =
    let f : (78 == a) ≡ true = (and_parts (78 == a) ((79 == b) && true) e).0 in
    let g : (79 == b) ≡ true = (and_parts (79 == b) true (and_parts (78 == a) ((79 == b) && true) e).1).0 in
    sym (ap₂ (λ (x y : ℕ). x ∷ y ∷ w) (eqb-true 78 a f) (eqb-true 79 b g))

mapped_some_comes_from_some : {X Y : Type 0} (f : X → Y) (o : Option X) (y : Y) → option_map f o ≡ Some y → (x : X) × (o ≡ Some x)
mapped_some_comes_from_some f None y e = absurd cc
mapped_some_comes_from_some f (Some x) y e = (x, refl)

tag_by_its_no_has_property_of_tag_words : {Y : Type 0} (f : List ℕ → Y) (y : Y) (w : List ℕ) (g : Tag × Bool) (b : Bool) → starts_with nat_eq w (codes "NO") ≡ b
    → AllByRecursion (λ row. f row.0 ≡ y) tags_by_word → AllByRecursion (λ row. f (codes "NO" ++ row.0) ≡ y) tags_by_word
    → (if b then option_map (λ t. (t, false)) (value_of_matching_row tags_by_word (drop 2 w)) else option_map (λ t. (t, true)) (value_of_matching_row tags_by_word w)) ≡ Some g → f w ≡ y
tag_by_its_no_has_property_of_tag_words f y w g true starts on off e =
    let found = mapped_some_comes_from_some (λ t. (t, false)) (value_of_matching_row tags_by_word (drop 2 w)) g e in
    ap f (word_starting_with_no_is_no_and_rest w starts) ∙ word_found_in_table_has_row_property (λ v. f (codes "NO" ++ v)) y tags_by_word (drop 2 w) found.0 off found.1
tag_by_its_no_has_property_of_tag_words f y w g false starts on off e =
    let found = mapped_some_comes_from_some (λ t. (t, true)) (value_of_matching_row tags_by_word w) g e in
    word_found_in_table_has_row_property f y tags_by_word w found.0 on found.1

-- what holds of each tag, with `NO` before it and without, holds of a word that is a tag
tag_has_property_of_tag_words : {Y : Type 0} (f : List ℕ → Y) (y : Y) (w : List ℕ) (g : Tag × Bool)
    → AllByRecursion (λ row. f row.0 ≡ y) tags_by_word → AllByRecursion (λ row. f (codes "NO" ++ row.0) ≡ y) tags_by_word → tag_and_sign_of_word w ≡ Some g → f w ≡ y
tag_has_property_of_tag_words f y w g on off e = tag_by_its_no_has_property_of_tag_words f y w g (starts_with nat_eq w (codes "NO")) refl on off e

pub tag_is_no_option : (t : TokenWithBytes) (g : Tag × Bool) → tag_and_sign_of_token t ≡ Some g → option_of_token t ≡ None
unfolding tag_and_sign_of_token option_of_token
tag_is_no_option t g e =
    text_without_meaning_has_no_word_meaning (value_of_matching_row options_by_name) t
    (tag_has_property_of_tag_words (value_of_matching_row options_by_name) None t.text g (search) (search) (word_meaning_is_that_of_text tag_and_sign_of_word t g e))

pub digest_kind_is_no_option : (t : TokenWithBytes) (k : DigestKind) → digest_kind_of_token t ≡ Some k → option_of_token t ≡ None
unfolding digest_kind_of_token option_of_token
digest_kind_is_no_option t k e =
    text_without_meaning_has_no_word_meaning (value_of_matching_row options_by_name) t
    (word_found_in_table_has_row_property (value_of_matching_row options_by_name) None digest_kinds_by_word t.text k (search) (word_meaning_is_that_of_text (value_of_matching_row digest_kinds_by_word) t k e))

pub digest_kind_is_no_tag : (t : TokenWithBytes) (k : DigestKind) → digest_kind_of_token t ≡ Some k → tag_and_sign_of_token t ≡ None
unfolding digest_kind_of_token tag_and_sign_of_token
digest_kind_is_no_tag t k e =
    text_without_meaning_has_no_word_meaning tag_and_sign_of_word t
    (word_found_in_table_has_row_property tag_and_sign_of_word None digest_kinds_by_word t.text k (search) (word_meaning_is_that_of_text (value_of_matching_row digest_kinds_by_word) t k e))

-- a command's word says nothing else
command_word_has_no_excluded_meaning : {X : Type 0} (says : List ℕ → Option X) (k : TokenKind) (text : List ℕ) (a : Atom)
    → ((x : X) → says text ≡ Some x → command_atom_of_word text ≡ None) → command_atom_without_args k text ≡ Some a → (if is_word k then says text else None) ≡ None
unfolding command_atom_without_args
command_word_has_no_excluded_meaning says kind.Word text a other e = excluded_meaning_is_none (says text) (command_atom_of_word text) a other e
command_word_has_no_excluded_meaning says k text a other e = refl

pub command_is_no_option : (t : TokenWithBytes) (a : Atom) → command_atom_without_args t.kind t.text ≡ Some a → option_of_token t ≡ None
unfolding option_of_token
command_is_no_option t a e = command_word_has_no_excluded_meaning (value_of_matching_row options_by_name) t.kind t.text a (λ x f. word_found_in_table_has_row_property command_atom_of_word None options_by_name t.text x (search) f) e

pub command_is_no_tag : (t : TokenWithBytes) (a : Atom) → command_atom_without_args t.kind t.text ≡ Some a → tag_and_sign_of_token t ≡ None
unfolding tag_and_sign_of_token
command_is_no_tag t a e = command_word_has_no_excluded_meaning tag_and_sign_of_word t.kind t.text a (λ x f. tag_has_property_of_tag_words command_atom_of_word None t.text x (search) (search) f) e

pub command_is_no_digest_kind : (t : TokenWithBytes) (a : Atom) → command_atom_without_args t.kind t.text ≡ Some a → digest_kind_of_token t ≡ None
unfolding digest_kind_of_token
command_is_no_digest_kind t a e = command_word_has_no_excluded_meaning (value_of_matching_row digest_kinds_by_word) t.kind t.text a (λ x f. word_found_in_table_has_row_property command_atom_of_word None digest_kinds_by_word t.text x (search) f) e

-- a mark is no word
mark_is_no_word : (b : ℕ) (t : TokenWithBytes) → is_mark_of_byte b t ≡ true → is_word t.kind ≡ false
mark_is_no_word b t e = ap is_word (mark_has_punct_kind b t e)

pub mark_is_no_option : (b : ℕ) (t : TokenWithBytes) → is_mark_of_byte b t ≡ true → option_of_token t ≡ None
unfolding option_of_token
mark_is_no_option b t e = other_kind_of_token_has_no_word_meaning (value_of_matching_row options_by_name) t (mark_is_no_word b t e)

pub mark_is_no_tag : (b : ℕ) (t : TokenWithBytes) → is_mark_of_byte b t ≡ true → tag_and_sign_of_token t ≡ None
unfolding tag_and_sign_of_token
mark_is_no_tag b t e = other_kind_of_token_has_no_word_meaning tag_and_sign_of_word t (mark_is_no_word b t e)

pub mark_is_no_digest_kind : (b : ℕ) (t : TokenWithBytes) → is_mark_of_byte b t ≡ true → digest_kind_of_token t ≡ None
unfolding digest_kind_of_token
mark_is_no_digest_kind b t e = other_kind_of_token_has_no_word_meaning (value_of_matching_row digest_kinds_by_word) t (mark_is_no_word b t e)

-- ---- words by their kind

pub alias_kind_token_has_word_kind : (t : TokenWithBytes) (k : Kind) → alias_kind_of_token t ≡ Some k → t.kind ≡ kind.Word
unfolding alias_kind_of_token
alias_kind_token_has_word_kind t k e = token_with_word_meaning_has_word_kind (value_of_matching_row alias_kinds_by_keyword) t k e

pub include_token_has_word_kind : (t : TokenWithBytes) (dir : Bool) → include_is_dir_of_token t ≡ Some dir → t.kind ≡ kind.Word
unfolding include_is_dir_of_token
include_token_has_word_kind t dir e = token_with_word_meaning_has_word_kind (value_of_matching_row include_is_dir_by_word) t dir e

pub option_token_has_word_kind : (t : TokenWithBytes) (o : OptionName) → option_of_token t ≡ Some o → t.kind ≡ kind.Word
unfolding option_of_token
option_token_has_word_kind t o e = token_with_word_meaning_has_word_kind (value_of_matching_row options_by_name) t o e

pub tag_token_has_word_kind : (t : TokenWithBytes) (g : Tag × Bool) → tag_and_sign_of_token t ≡ Some g → t.kind ≡ kind.Word
unfolding tag_and_sign_of_token
tag_token_has_word_kind t g e = token_with_word_meaning_has_word_kind tag_and_sign_of_word t g e

pub digest_kind_token_has_word_kind : (t : TokenWithBytes) (k : DigestKind) → digest_kind_of_token t ≡ Some k → t.kind ≡ kind.Word
unfolding digest_kind_of_token
digest_kind_token_has_word_kind t k e = token_with_word_meaning_has_word_kind (value_of_matching_row digest_kinds_by_word) t k e

-- a word is no mark, no comment, no argument
pub word_is_no_mark : (b : ℕ) (t : TokenWithBytes) → t.kind ≡ kind.Word → is_mark_of_byte b t ≡ false
word_is_no_mark b t e = token_without_punct_kind_is_no_mark b t (ap is_punct e)

-- an operator is a mark, and no comma
pub operator_has_punct_kind : (t : TokenWithBytes) (o : Operator) → operator_of_token t ≡ Some o → t.kind ≡ kind.Punct
unfolding operator_of_token
operator_has_punct_kind t o e = punct_test_implies_punct_kind t.kind (some_of_first_branch_has_true_test (is_punct t.kind) (value_of_matching_row operators_by_mark t.text) o e).0

pub operator_is_no_comma : (t : TokenWithBytes) (o : Operator) → operator_of_token t ≡ Some o → is_mark_of_byte 44 t ≡ false
unfolding operator_of_token is_mark_of_byte
operator_is_no_comma t o e =
    rw (operator_has_punct_kind t o e)
    (word_found_in_table_has_row_property (λ text. true && bytes_eq text (44 ∷ [])) false operators_by_mark t.text o (search) (some_of_first_branch_has_true_test (is_punct t.kind) (value_of_matching_row operators_by_mark t.text) o e).1)

-- ---- scopes
