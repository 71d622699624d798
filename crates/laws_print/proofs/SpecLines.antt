-- A user specification as it is written is cut into its tokens, and read as this specification.
use Rattle.laws_print.proofs.Common.{◌≡◌, ℕ, Bool, true, false, List, [], ◌∷◌, refl, sym, subst, AllByRecursion, Mode, line_mode, HasTokens, User}
use Rattle.laws_print.proofs.Common.{Member, CmdSpec, HostGroup, TokenWithBytes, tokens_with_bytes, AreMembers, IsCmdSpec, IsHostGroup, Separated, Reads, printed_line}
use Rattle.laws_print.proofs.Common.{IsWritableUserMember, IsWritableHostMember, IsNonEmptyListOf, IsWritableCommand, IsWritableHostGroup, MemberIsReadBackAs, CommandIsReadBackAs, AreItemsPairwiseRelated, LineReadsBackAs, WrittenToken, line_of_written_tokens}
use Rattle.laws_print.proofs.Common.{tokens_placed_from_offset, AreTokensCut, AreTokensShownBy}
use Rattle.sudoers_text.specs.declared.token.Mode.TheVariants as mode
use Rattle.sudoers_text.specs.declared.context.TokenContext.TheVariants as context
use Rattle.sudoers_grammar.specs.declared.node.Kind.TheVariants.{Host}
use Rattle.sudoers_grammar.specs.Node as node
use Rattle.laws_print.specs.Same.{HostGroupIsReadBackAs}
use Rattle.laws_print.proofs.ListTokens.{token_of_mark, tokens_of_list_member, tokens_of_further_members, tokens_of_member_list}
use Rattle.laws_print.proofs.Whole.{cut_tokens_are_logical_line, IsLogicalLineWithoutNul}
use Rattle.laws_print.proofs.Shown.{placed_tokens_of_line_show_written, punctuation_of_byte_is_its_mark}
use Rattle.laws_print.proofs.UserCuts.{EndsUser, found_punctuation_is_cut, punctuation_in_word_list_is_cut}
use Rattle.laws_print.proofs.ListCuts.{hosts_context_is_list_context, member_list_before_tail_is_cut}
use Rattle.laws_print.proofs.ReadLists.{member_list_is_read_back}
use Rattle.laws_print.proofs.CommandCuts.{IsCutBehindCommand, punctuation_is_cut_among_commands}
use Rattle.laws_print.proofs.CommandLists.{comma_before_commands_is_cut_behind_command, no_tokens_are_cut_behind_command}
use Rattle.laws_print.proofs.CmdSpecs.{command_spec_is_cut}
use Rattle.laws_print.proofs.ReadCmdSpecs.{command_spec_is_read_back}
use Rattle.laws_print.proofs.AliasLines.{CutTokensAreTokensOfLine, no_written_token_shows_line_end}
use Rattle.laws_print.proofs.FirstUsers.{first_user_list_before_tail_is_cut, mode_of_user_list_line_is_commands, user_list_tokens_begin_spec}
use Rattle.laws_print.proofs.SpecTokens.{tokens_of_one_command_spec, tokens_of_further_command_specs, tokens_of_command_spec_list, tokens_of_host_group, tokens_of_further_host_groups, tokens_of_host_group_list, tokens_of_spec_line, text_of_spec_tokens_is_printed_line}
use Rattle.laws_print.proofs.Many.{ReadsAsSameThing, many_read}

-- ---- the tokens

further_command_specs_are_cut : (cs : List CmdSpec) (tail : List WrittenToken) → AllByRecursion IsWritableCommand cs → IsCutBehindCommand tail → IsCutBehindCommand (tokens_of_further_command_specs cs tail)
further_command_specs_are_cut [] tail all cut = cut
further_command_specs_are_cut (c ∷ cs) tail all cut =
    comma_before_commands_is_cut_behind_command (tokens_of_one_command_spec true c (tokens_of_further_command_specs cs tail)) (command_spec_is_cut true c.runas c.options c.tags c.member (tokens_of_further_command_specs cs tail) all.0.runas all.0.member (further_command_specs_are_cut cs tail all.1 cut))

command_spec_list_is_cut : (cs : List CmdSpec) (tail : List WrittenToken) → IsNonEmptyListOf IsWritableCommand cs → IsCutBehindCommand tail → AreTokensCut context.Commands true (tokens_of_command_spec_list cs tail)
command_spec_list_is_cut [] tail all cut = absurd all
command_spec_list_is_cut (c ∷ cs) tail all cut = command_spec_is_cut true c.runas c.options c.tags c.member (tokens_of_further_command_specs cs tail) all.0.runas all.0.member (further_command_specs_are_cut cs tail all.1 cut)

blank_ends_user : (rest : List ℕ) → EndsUser (32 ∷ rest)
blank_ends_user rest = record { word = refl; hash = refl; colon = refl; digit = refl }

host_group_before_tail_is_cut : (item : Bool) (g : HostGroup) (tail : List WrittenToken) → IsWritableHostGroup g → IsCutBehindCommand tail → AreTokensCut context.Hosts item (tokens_of_host_group g tail)
host_group_before_tail_is_cut item g tail is cut =
    let cmds = tokens_of_command_spec_list g.commands tail in
    member_list_before_tail_is_cut Host context.Hosts context.Hosts hosts_context_is_list_context item true false g.hosts (token_of_mark 61 true ∷ cmds) is.hosts tt (blank_ends_user _)
    (true, punctuation_in_word_list_is_cut context.Hosts false true 61 (line_of_written_tokens cmds) refl refl (λ before begins is. refl), command_spec_list_is_cut g.commands tail is.commands cut)

-- Behind a colon stand hosts.
colon_before_hosts_is_cut_behind_command : (next : List WrittenToken) → AreTokensCut context.Hosts true next → IsCutBehindCommand (token_of_mark 58 true ∷ next)
colon_before_hosts_is_cut_behind_command next more = record {
  commands = (true, punctuation_is_cut_among_commands false true 58 (line_of_written_tokens next) refl refl (λ before begins is. refl), more);
  arguments = (true, found_punctuation_is_cut context.Arguments false true 58 (line_of_written_tokens next) (λ i first. refl) refl (λ before begins is. refl), more);
  ends = record { argument = record { path = refl; quote = refl }; word = record { ends = refl; apart = λ h. (refl, refl) } };
}

further_host_groups_are_cut : (gs : List HostGroup) (tail : List WrittenToken) → AllByRecursion IsWritableHostGroup gs → IsCutBehindCommand tail → IsCutBehindCommand (tokens_of_further_host_groups gs tail)
further_host_groups_are_cut [] tail all cut = cut
further_host_groups_are_cut (g ∷ gs) tail all cut = colon_before_hosts_is_cut_behind_command (tokens_of_host_group g (tokens_of_further_host_groups gs tail)) (host_group_before_tail_is_cut true g (tokens_of_further_host_groups gs tail) all.0 (further_host_groups_are_cut gs tail all.1 cut))

host_group_list_is_cut : (gs : List HostGroup) → IsNonEmptyListOf IsWritableHostGroup gs → AreTokensCut context.Hosts false (tokens_of_host_group_list gs [])
host_group_list_is_cut [] all = absurd all
host_group_list_is_cut (g ∷ gs) all = host_group_before_tail_is_cut false g (tokens_of_further_host_groups gs []) all.0 (further_host_groups_are_cut gs [] all.1 no_tokens_are_cut_behind_command)

-- a blank stands before the hosts
text_of_host_list_begins_with_blank : (hosts : List Member) (tail : List WrittenToken) → IsNonEmptyListOf IsWritableHostMember hosts → (rest : List ℕ) × (line_of_written_tokens (tokens_of_member_list Host true false hosts tail) ≡ 32 ∷ rest)
text_of_host_list_begins_with_blank [] tail all = absurd all
text_of_host_list_begins_with_blank (m ∷ ms) tail all = by_sign m.negated
  where
    by_sign : (negated : Bool) → (rest : List ℕ) × (line_of_written_tokens (tokens_of_list_member Host true false negated m.atom (tokens_of_further_members Host ms tail)) ≡ 32 ∷ rest)
    by_sign true = (_, refl)
    by_sign false = (_, refl)

text_of_host_groups_begins_with_blank : (gs : List HostGroup) → IsNonEmptyListOf IsWritableHostGroup gs → (rest : List ℕ) × (line_of_written_tokens (tokens_of_host_group_list gs []) ≡ 32 ∷ rest)
text_of_host_groups_begins_with_blank [] all = absurd all
text_of_host_groups_begins_with_blank (g ∷ gs) all = text_of_host_list_begins_with_blank g.hosts (token_of_mark 61 true ∷ tokens_of_command_spec_list g.commands (tokens_of_further_host_groups gs [])) all.0.hosts

host_groups_end_user : (gs : List HostGroup) → IsNonEmptyListOf IsWritableHostGroup gs → EndsUser (line_of_written_tokens (tokens_of_host_group_list gs []))
host_groups_end_user gs all = let part = text_of_host_groups_begins_with_blank gs all in subst EndsUser (sym part.1) (blank_ends_user part.0)

spec_line_is_cut : (users : List Member) (groups : List HostGroup) → IsNonEmptyListOf IsWritableUserMember users → IsNonEmptyListOf IsWritableHostGroup groups → AreTokensCut (context.First mode.Commands) true (tokens_of_spec_line users groups)
spec_line_is_cut [] groups all some = absurd all
spec_line_is_cut (m ∷ ms) groups all some = first_user_list_before_tail_is_cut m ms (tokens_of_host_group_list groups []) all (host_groups_end_user groups some) (host_group_list_is_cut groups some)

mode_of_spec_line_is_commands : (users : List Member) (groups : List HostGroup) → IsNonEmptyListOf IsWritableUserMember users → IsNonEmptyListOf IsWritableHostGroup groups → line_mode (line_of_written_tokens (tokens_of_spec_line users groups)) ≡ mode.Commands
mode_of_spec_line_is_commands [] groups all some = absurd all
mode_of_spec_line_is_commands (m ∷ ms) groups all some =
    let part = text_of_host_groups_begins_with_blank groups some in
    mode_of_user_list_line_is_commands m ms (tokens_of_host_group_list groups []) all (host_groups_end_user groups some) (record { byte = 32; rest = part.0; whole = part.1; is = refl })

-- ---- what they say

command_spec_list_is_read_back : (cs : List CmdSpec) (tail : List WrittenToken) (ts : List TokenWithBytes) → IsNonEmptyListOf IsWritableCommand cs → AreTokensShownBy (tokens_of_command_spec_list cs tail) ts → ReadsAsSameThing (Separated 44 IsCmdSpec) (AreItemsPairwiseRelated CommandIsReadBackAs) ts cs tail
command_spec_list_is_read_back = many_read 44 false IsCmdSpec CommandIsReadBackAs IsWritableCommand (tokens_of_one_command_spec true) (command_spec_is_read_back true) (tokens_of_one_command_spec true) (command_spec_is_read_back true)

host_group_is_read_back : (g : HostGroup) (tail : List WrittenToken) (ts : List TokenWithBytes) → IsWritableHostGroup g → AreTokensShownBy (tokens_of_host_group g tail) ts → ReadsAsSameThing IsHostGroup HostGroupIsReadBackAs ts g tail
host_group_is_read_back g tail ts is shown =
    let hosts = member_list_is_read_back Host true false g.hosts (token_of_mark 61 true ∷ tokens_of_command_spec_list g.commands tail) ts is.hosts shown in
    by_rest hosts.thing hosts.rest hosts.is hosts.alike hosts.behind
  where
    by_rest : (hosts : List Member) (rest : List TokenWithBytes) → AreMembers Host ts hosts rest → AreItemsPairwiseRelated MemberIsReadBackAs g.hosts hosts → AreTokensShownBy (token_of_mark 61 true ∷ tokens_of_command_spec_list g.commands tail) rest → ReadsAsSameThing IsHostGroup HostGroupIsReadBackAs ts g tail
    by_rest hosts [] are same shown = absurd shown
    by_rest hosts (e ∷ rest) are same shown =
        let cmds = command_spec_list_is_read_back g.commands tail rest is.commands shown.2 in
        record {
          thing = record { hosts = hosts; commands = cmds.thing };
          rest = cmds.rest;
          is = record { behind_hosts = e ∷ rest; equals = e; behind = rest; hosts = are; split = refl; is_equals = punctuation_of_byte_is_its_mark 61 e shown.0 shown.1; commands = cmds.is };
          alike = record { hosts = same; commands = cmds.alike };
          behind = cmds.behind;
        }

host_group_list_is_read_back : (gs : List HostGroup) (ts : List TokenWithBytes) → IsNonEmptyListOf IsWritableHostGroup gs → AreTokensShownBy (tokens_of_host_group_list gs []) ts → ReadsAsSameThing (Separated 58 IsHostGroup) (AreItemsPairwiseRelated HostGroupIsReadBackAs) ts gs []
host_group_list_is_read_back gs ts = many_read 58 true IsHostGroup HostGroupIsReadBackAs IsWritableHostGroup tokens_of_host_group host_group_is_read_back tokens_of_host_group host_group_is_read_back gs [] ts

-- what is said of some tokens
pub record ReadsAsSpecNode (ts : List TokenWithBytes) (users : List Member) (groups : List HostGroup) : Type 0 where
  pub others : List Member
  pub places : List HostGroup
  pub reads : Reads ts (node.Spec others places)
  pub same_users : AreItemsPairwiseRelated MemberIsReadBackAs users others
  pub same_groups : AreItemsPairwiseRelated HostGroupIsReadBackAs groups places

spec_tokens_read_as_node : (users : List Member) (groups : List HostGroup) (ts : List TokenWithBytes) → IsNonEmptyListOf IsWritableUserMember users → IsNonEmptyListOf IsWritableHostGroup groups → AreTokensShownBy (tokens_of_spec_line users groups) ts → ReadsAsSpecNode ts users groups
spec_tokens_read_as_node [] groups ts all some shown = absurd all
spec_tokens_read_as_node (m ∷ ms) groups ts all some shown =
    let users = member_list_is_read_back User false true (m ∷ ms) (tokens_of_host_group_list groups []) ts all shown in
    let places = host_group_list_is_read_back groups users.rest some users.behind in
    record {
      others = users.thing;
      places = places.thing;
      reads = (
        places.rest,
        record { behind = users.rest; begins = user_list_tokens_begin_spec m ms (tokens_of_host_group_list groups []) ts all shown; users = users.is; groups = places.is },
        no_written_token_shows_line_end places.rest places.behind,
      );
      same_users = users.alike;
      same_groups = places.alike;
    }

-- ---- the line

-- A user specification is read as it is printed, and its line is one logical line.
pub printed_spec_line_reads_back : CutTokensAreTokensOfLine → (users : List Member) (groups : List HostGroup) → IsNonEmptyListOf IsWritableUserMember users → IsNonEmptyListOf IsWritableHostGroup groups → LineReadsBackAs (printed_line (node.Spec users groups)) (node.Spec users groups)
printed_spec_line_reads_back law users groups all some =
    let ps = tokens_of_spec_line users groups in
    let says = spec_tokens_read_as_node users groups (tokens_with_bytes (line_of_written_tokens ps) (tokens_placed_from_offset 0 ps)) all some (placed_tokens_of_line_show_written ps) in
    subst (λ (bytes : List ℕ). LineReadsBackAs bytes (node.Spec users groups)) (text_of_spec_tokens_is_printed_line users groups all some) (record {
      read = node.Spec says.others says.places;
      reads = record {
        tokens = tokens_placed_from_offset 0 ps;
        has = subst (λ (m : Mode). HasTokens m (line_of_written_tokens ps) (tokens_placed_from_offset 0 ps)) (sym (mode_of_spec_line_is_commands users groups all some)) (law mode.Commands ps (spec_line_is_cut users groups all some));
        reads = says.reads;
      };
      same = (says.same_users, says.same_groups);
    })

pub printed_spec_line_is_logical_line : (users : List Member) (groups : List HostGroup) → IsNonEmptyListOf IsWritableUserMember users → IsNonEmptyListOf IsWritableHostGroup groups → IsLogicalLineWithoutNul (printed_line (node.Spec users groups))
printed_spec_line_is_logical_line users groups all some =
    subst IsLogicalLineWithoutNul (text_of_spec_tokens_is_printed_line users groups all some) (cut_tokens_are_logical_line (tokens_of_spec_line users groups) (context.First mode.Commands) (spec_line_is_cut users groups all some))
