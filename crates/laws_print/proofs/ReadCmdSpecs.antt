-- A command with what stands before it as it is written is read so.
use Rattle.laws_print.proofs.Common.{◌≡◌, ℕ, Bool, true, false, ◌&&◌, ◌||◌, List, [], ◌∷◌, Some, None, refl, ap, subst, ◌∙◌, Option, if◌then◌else◌}
use Rattle.laws_print.proofs.Common.{AllByRecursion, TokenKind, value_of_word, Runas, Tag, OptionName, Member, RunasSpec, CmdSpec, TokenWithBytes, is_quoted}
use Rattle.laws_print.proofs.Common.{is_option_value_allowed, option_value_of_token, AreMembers, IsTag, IsOption, IsRunas, IsCmdSpec, IsCommand, Many, MarkThenRule, Perhaps}
use Rattle.laws_print.proofs.Common.{option_keyword, tag_keyword_or_negated, IsWritableUserMember, IsWritableCommandMember, IsWritableRunasSpec, IsWritableOption, IsWritableCommand, MemberIsReadBackAs, AreItemsPairwiseRelated}
use Rattle.laws_print.proofs.Common.{CommandIsReadBackAs, WrittenToken, text_of_units, AreTokensShownBy}
use Rattle.sudoers_text.specs.declared.token.TokenKind.TheVariants as kind
use Rattle.sudoers_grammar.specs.declared.node.Tag.TheVariants as tag
use Rattle.sudoers_grammar.specs.declared.node.OptionName.TheVariants as option
use Rattle.sudoers_grammar.specs.Piece.{is_word, tag_and_sign_of_token, option_of_token}
use Rattle.laws_print.specs.Same.{RunasIsReadBackAs}
use Rattle.laws_print.proofs.Units.{units_of_plain_bytes}
use Rattle.laws_print.proofs.ListTokens.{token_of_mark, tokens_of_member_list}
use Rattle.laws_print.proofs.CommandTokens.{token_of_option_value, tokens_of_tags_and_command, tokens_of_options_and_command, tokens_inside_runas_parentheses, tokens_of_runas_part, tokens_of_command_spec}
use Rattle.laws_print.proofs.Shown.{punctuation_of_byte_is_its_mark}
use Rattle.laws_print.proofs.Values.{value_of_word_units_is_word}
use Rattle.laws_print.proofs.ReadLists.{member_list_is_read_back}
use Rattle.laws_print.proofs.ReadCommandLists.{command_member_is_read_back}
use Rattle.laws_print.proofs.Many.{ReadsAsSameThing}

-- ---- tags

tag_token_is_read_back : (g : Tag) (on : Bool) (t : TokenWithBytes) → t.kind ≡ kind.Word → t.text ≡ text_of_units (units_of_plain_bytes (tag_keyword_or_negated g on)) → tag_and_sign_of_token t ≡ Some (g, on)
unfolding tag_and_sign_of_token
tag_token_is_read_back tag.Exec true t k text = rw (k, text) refl
tag_token_is_read_back tag.Exec false t k text = rw (k, text) refl
tag_token_is_read_back g true t k text = rw (k, text) refl
tag_token_is_read_back g false t k text = rw (k, text) refl

-- what is before a command, and how the command is read
pub record ReadsAsTagsAndCommand (ts : List TokenWithBytes) (gs : List (Tag × Bool)) (m : Member) (tail : List WrittenToken) : Type 0 where
  pub behind_tags : List TokenWithBytes
  pub member : Member
  pub rest : List TokenWithBytes
  pub tags : Many IsTag ts gs behind_tags
  pub is : IsCommand behind_tags member rest
  pub alike : MemberIsReadBackAs m member
  pub behind : AreTokensShownBy tail rest

tags_and_command_are_read_back : (spaced : Bool) (gs : List (Tag × Bool)) (m : Member) (tail : List WrittenToken) (ts : List TokenWithBytes) → IsWritableCommandMember m → AreTokensShownBy (tokens_of_tags_and_command spaced gs m tail) ts → ReadsAsTagsAndCommand ts gs m tail
tags_and_command_are_read_back spaced [] m tail ts is shows =
    let one = command_member_is_read_back spaced m tail ts is shows in
    record { behind_tags = ts; member = one.thing; rest = one.rest; tags = refl; is = one.is; alike = one.alike; behind = one.behind }
tags_and_command_are_read_back spaced (g ∷ gs) m tail [] is shows = absurd shows
tags_and_command_are_read_back spaced (g ∷ gs) m tail (w ∷ []) is shows = absurd shows.2
tags_and_command_are_read_back spaced (g ∷ gs) m tail (w ∷ c ∷ ts) is shows =
    let more = tags_and_command_are_read_back true gs m tail ts is shows.2.2 in
    record {
      behind_tags = more.behind_tags;
      member = more.member;
      rest = more.rest;
      tags = (ts, record { word = w; colon = c; split = refl; is_tag = tag_token_is_read_back g.0 g.1 w shows.0 shows.1; is_colon = punctuation_of_byte_is_its_mark 58 c shows.2.0 shows.2.1 }, more.tags);
      is = more.is;
      alike = more.alike;
      behind = more.behind;
    }

-- ---- options

option_keyword_is_read_back : (o : OptionName) (t : TokenWithBytes) → t.kind ≡ kind.Word → t.text ≡ text_of_units (units_of_plain_bytes (option_keyword o)) → option_of_token t ≡ Some o
unfolding option_of_token
option_keyword_is_read_back option.Role t k text = rw (k, text) refl
option_keyword_is_read_back o t k text = rw (k, text) refl

allowed_option_value_is_read_by_word : (o : OptionName) (value : List ℕ) (t : TokenWithBytes) → (is_word t.kind || is_quoted t.kind) ≡ true → value_of_word t.text ≡ value → is_option_value_allowed o value ≡ true → option_value_of_token o t ≡ Some value
unfolding option_value_of_token
allowed_option_value_is_read_by_word o value t k text is = ap (λ (v : List ℕ). if (is_word t.kind || is_quoted t.kind) && is_option_value_allowed o v then Some v else None) text
    ∙ ap (λ (c : Bool). if c && is_option_value_allowed o value then Some value else None) k ∙ ap (λ (c : Bool). if c then Some value else None) is

value_of_empty_quotes_is_empty : value_of_word (34 ∷ 34 ∷ []) ≡ []
unfolding value_of_word
value_of_empty_quotes_is_empty = refl

option_value_token_is_read_back : (o : OptionName) (value : List ℕ) (t : TokenWithBytes) → is_option_value_allowed o value ≡ true → t.kind ≡ (token_of_option_value value).kind → t.text ≡ text_of_units (token_of_option_value value).units → option_value_of_token o t ≡ Some value
option_value_token_is_read_back o [] t is k text = allowed_option_value_is_read_by_word o [] t (ap (λ (c : TokenKind). is_word c || is_quoted c) k) (ap value_of_word text ∙ value_of_empty_quotes_is_empty) is
option_value_token_is_read_back o (b ∷ value) t is k text = allowed_option_value_is_read_by_word o (b ∷ value) t (ap (λ (c : TokenKind). is_word c || is_quoted c) k) (ap value_of_word text ∙ value_of_word_units_is_word (b ∷ value)) is

pub record ReadsAsOptionsTagsAndCommand (ts : List TokenWithBytes) (os : List (OptionName × List ℕ)) (gs : List (Tag × Bool)) (m : Member) (tail : List WrittenToken) : Type 0 where
  pub behind_options : List TokenWithBytes
  pub options : Many IsOption ts os behind_options
  pub tagged : ReadsAsTagsAndCommand behind_options gs m tail

options_tags_and_command_are_read_back : (spaced : Bool) (os : List (OptionName × List ℕ)) (gs : List (Tag × Bool)) (m : Member) (tail : List WrittenToken) (ts : List TokenWithBytes) → AllByRecursion IsWritableOption os → IsWritableCommandMember m → AreTokensShownBy (tokens_of_options_and_command spaced os gs m tail) ts → ReadsAsOptionsTagsAndCommand ts os gs m tail
options_tags_and_command_are_read_back spaced [] gs m tail ts all is shows = record { behind_options = ts; options = refl; tagged = tags_and_command_are_read_back spaced gs m tail ts is shows }
options_tags_and_command_are_read_back spaced (o ∷ os) gs m tail [] all is shows = absurd shows
options_tags_and_command_are_read_back spaced (o ∷ os) gs m tail (w ∷ []) all is shows = absurd shows.2
options_tags_and_command_are_read_back spaced (o ∷ os) gs m tail (w ∷ e ∷ []) all is shows = absurd shows.2.2
options_tags_and_command_are_read_back spaced (o ∷ os) gs m tail (w ∷ e ∷ v ∷ ts) all is shows =
    let more = options_tags_and_command_are_read_back true os gs m tail ts all.1 is shows.2.2.2 in
    record {
      behind_options = more.behind_options;
      options = (
        ts,
        record {
          name = w;
          equals = e;
          value = v;
          split = refl;
          is_name = option_keyword_is_read_back o.0 w shows.0 shows.1;
          is_equals = punctuation_of_byte_is_its_mark 61 e shows.2.0 shows.2.1;
          is_value = option_value_token_is_read_back o.0 o.1 v all.0 shows.2.2.0 shows.2.2.1;
        },
        more.options,
      );
      tagged = more.tagged;
    }

-- ---- what is read

nonempty_member_list_is_optional_one : (P : List TokenWithBytes → List Member → List TokenWithBytes → Type 0) (ts : List TokenWithBytes) (x : Member) (xs ys : List Member) (rest : List TokenWithBytes) → AreItemsPairwiseRelated MemberIsReadBackAs (x ∷ xs) ys → P ts ys rest → Perhaps P ts ys rest
nonempty_member_list_is_optional_one P ts x xs [] rest same is = absurd same
nonempty_member_list_is_optional_one P ts x xs (y ∷ ys) rest same is = is

pub record ReadsAsRunasLists (ts : List TokenWithBytes) (us gs : List Member) (tail : List WrittenToken) : Type 0 where
  pub users : List Member
  pub groups : List Member
  pub behind_users : List TokenWithBytes
  pub behind_groups : List TokenWithBytes
  pub are_users : Perhaps (AreMembers Runas) ts users behind_users
  pub are_groups : Perhaps (MarkThenRule 58 (AreMembers Runas)) behind_users groups behind_groups
  pub same_users : AreItemsPairwiseRelated MemberIsReadBackAs us users
  pub same_groups : AreItemsPairwiseRelated MemberIsReadBackAs gs groups
  pub behind : AreTokensShownBy tail behind_groups

runas_lists_are_read_back : (us gs : List Member) (tail : List WrittenToken) (ts : List TokenWithBytes) → AllByRecursion IsWritableUserMember us → AllByRecursion IsWritableUserMember gs → AreTokensShownBy (tokens_inside_runas_parentheses us gs tail) ts → ReadsAsRunasLists ts us gs tail
runas_lists_are_read_back [] [] tail ts all others shows = record { users = []; groups = []; behind_users = ts; behind_groups = ts; are_users = refl; are_groups = refl; same_users = tt; same_groups = tt; behind = shows }
runas_lists_are_read_back (u ∷ us) [] tail ts all others shows =
    let list = member_list_is_read_back Runas false false (u ∷ us) tail ts all shows in
    record {
      users = list.thing;
      groups = [];
      behind_users = list.rest;
      behind_groups = list.rest;
      are_users = nonempty_member_list_is_optional_one (AreMembers Runas) ts u us list.thing list.rest list.alike list.is;
      are_groups = refl;
      same_users = list.alike;
      same_groups = tt;
      behind = list.behind;
    }
runas_lists_are_read_back [] (g ∷ gs) tail [] all others shows = absurd shows
runas_lists_are_read_back [] (g ∷ gs) tail (c ∷ ts) all others shows =
    let list = member_list_is_read_back Runas true false (g ∷ gs) tail ts others shows.2 in
    record {
      users = [];
      groups = list.thing;
      behind_users = c ∷ ts;
      behind_groups = list.rest;
      are_users = refl;
      are_groups = nonempty_member_list_is_optional_one (MarkThenRule 58 (AreMembers Runas)) (c ∷ ts) g gs list.thing list.rest list.alike (record { mark = c; behind = ts; split = refl; is_mark = punctuation_of_byte_is_its_mark 58 c shows.0 shows.1; is = list.is });
      same_users = tt;
      same_groups = list.alike;
      behind = list.behind;
    }
runas_lists_are_read_back (u ∷ us) (g ∷ gs) tail ts all others shows =
    let list = member_list_is_read_back Runas false false (u ∷ us) (token_of_mark 58 true ∷ tokens_of_member_list Runas true false (g ∷ gs) tail) ts all shows in
    by_rest list.thing list.rest list.is list.alike list.behind
  where
    by_rest : (users : List Member) (rest : List TokenWithBytes) → AreMembers Runas ts users rest → AreItemsPairwiseRelated MemberIsReadBackAs (u ∷ us) users → AreTokensShownBy (token_of_mark 58 true ∷ tokens_of_member_list Runas true false (g ∷ gs) tail) rest → ReadsAsRunasLists ts (u ∷ us) (g ∷ gs) tail
    by_rest users [] is same shows = absurd shows
    by_rest users (c ∷ rest) is same shows =
        let list = member_list_is_read_back Runas true false (g ∷ gs) tail rest others shows.2 in
        record {
          users = users;
          groups = list.thing;
          behind_users = c ∷ rest;
          behind_groups = list.rest;
          are_users = nonempty_member_list_is_optional_one (AreMembers Runas) ts u us users (c ∷ rest) same is;
          are_groups = nonempty_member_list_is_optional_one (MarkThenRule 58 (AreMembers Runas)) (c ∷ rest) g gs list.thing list.rest list.alike (record { mark = c; behind = rest; split = refl; is_mark = punctuation_of_byte_is_its_mark 58 c shows.0 shows.1; is = list.is });
          same_users = same;
          same_groups = list.alike;
          behind = list.behind;
        }

-- what the parentheses are read as
pub record ReadsAsRunasPart (ts : List TokenWithBytes) (r : RunasSpec) (tail : List WrittenToken) : Type 0 where
  pub runas : RunasSpec
  pub rest : List TokenWithBytes
  pub is : IsRunas ts runas rest
  pub users : AreItemsPairwiseRelated MemberIsReadBackAs r.users runas.users
  pub groups : AreItemsPairwiseRelated MemberIsReadBackAs r.groups runas.groups
  pub behind : AreTokensShownBy tail rest

runas_part_is_read_back : (spaced : Bool) (r : RunasSpec) (tail : List WrittenToken) (ts : List TokenWithBytes) → AllByRecursion IsWritableUserMember r.users → AllByRecursion IsWritableUserMember r.groups → AreTokensShownBy (tokens_of_runas_part spaced r tail) ts → ReadsAsRunasPart ts r tail
runas_part_is_read_back spaced r tail [] all others shows = absurd shows
runas_part_is_read_back spaced r tail (o ∷ ts) all others shows =
    let inside = runas_lists_are_read_back r.users r.groups (token_of_mark 41 false ∷ tail) ts all others shows.2 in
    by_rest inside.users inside.groups inside.behind_users inside.behind_groups inside.are_users inside.are_groups inside.same_users inside.same_groups inside.behind
  where
    by_rest : (users groups : List Member) (behind_users rest : List TokenWithBytes) → Perhaps (AreMembers Runas) ts users behind_users → Perhaps (MarkThenRule 58 (AreMembers Runas)) behind_users groups rest → AreItemsPairwiseRelated MemberIsReadBackAs r.users users → AreItemsPairwiseRelated MemberIsReadBackAs r.groups groups → AreTokensShownBy (token_of_mark 41 false ∷ tail) rest → ReadsAsRunasPart (o ∷ ts) r tail
    by_rest users groups behind_users [] is are same sames shown = absurd shown
    by_rest users groups behind_users (c ∷ rest) is are same sames shown = record {
      runas = record { users = users; groups = groups };
      rest = rest;
      is = record {
        opening = o;
        inside = ts;
        behind_users = behind_users;
        behind_groups = c ∷ rest;
        closing = c;
        split = refl;
        is_open = punctuation_of_byte_is_its_mark 40 o shows.0 shows.1;
        users = is;
        groups = are;
        split_groups = refl;
        is_close = punctuation_of_byte_is_its_mark 41 c shown.0 shown.1;
      };
      users = same;
      groups = sames;
      behind = shown.2;
    }

-- A command with what stands before it is read as it is written.
command_spec_parts_are_read_back : (spaced : Bool) (c : CmdSpec) (runas : Option RunasSpec) (tail : List WrittenToken) (ts : List TokenWithBytes) → runas ≡ c.runas → IsWritableRunasSpec runas → AllByRecursion IsWritableOption c.options → IsWritableCommandMember c.member → AreTokensShownBy (tokens_of_command_spec spaced runas c.options c.tags c.member tail) ts → ReadsAsSameThing IsCmdSpec CommandIsReadBackAs ts c tail
command_spec_parts_are_read_back spaced c None tail ts same list all is shows =
    let options = options_tags_and_command_are_read_back spaced c.options c.tags c.member tail ts all is shows in
    let one = options.tagged in
    record {
      thing = record { runas = None; options = c.options; tags = c.tags; member = one.member };
      rest = one.rest;
      is = record { behind_runas = ts; behind_options = options.behind_options; behind_tags = one.behind_tags; runas = refl; options = options.options; tags = one.tags; member = one.is };
      alike = record { runas = subst (λ (r : Option RunasSpec). RunasIsReadBackAs r None) same tt; options = refl; tags = refl; member = one.alike };
      behind = one.behind;
    }
command_spec_parts_are_read_back spaced c (Some r) tail ts same list all is shows =
    let runas = runas_part_is_read_back spaced r (tokens_of_options_and_command true c.options c.tags c.member tail) ts list.0 list.1 shows in
    let options = options_tags_and_command_are_read_back true c.options c.tags c.member tail runas.rest all is runas.behind in
    let one = options.tagged in
    record {
      thing = record { runas = Some runas.runas; options = c.options; tags = c.tags; member = one.member };
      rest = one.rest;
      is = record { behind_runas = runas.rest; behind_options = options.behind_options; behind_tags = one.behind_tags; runas = runas.is; options = options.options; tags = one.tags; member = one.is };
      alike = record { runas = subst (λ (s : Option RunasSpec). RunasIsReadBackAs s (Some runas.runas)) same (runas.users, runas.groups); options = refl; tags = refl; member = one.alike };
      behind = one.behind;
    }

pub command_spec_is_read_back : (spaced : Bool) (c : CmdSpec) (tail : List WrittenToken) (ts : List TokenWithBytes) → IsWritableCommand c → AreTokensShownBy (tokens_of_command_spec spaced c.runas c.options c.tags c.member tail) ts → ReadsAsSameThing IsCmdSpec CommandIsReadBackAs ts c tail
command_spec_is_read_back spaced c tail ts is shows = command_spec_parts_are_read_back spaced c c.runas tail ts refl is.runas is.options is.member shows
