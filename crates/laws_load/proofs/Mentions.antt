-- A name stands at each of its mentions on the walk.
use Rattle.std.proofs.Common.{◌≡◌, ℕ, ◌+◌, ◌-◌, ◌≤◌, Bool, true, false, if◌then◌else◌, List, [], ◌∷◌, drop, length, map, option_map, slice_get, Some, refl, sym, ap, subst, ◌∙◌, arith}
use Rattle.std.specs.List.{AllByRecursion}
use Rattle.std.specs.Prelude.{slice_index_or, slice_range}
use Rattle.std.specs.Str.{bytes_eq}
use Rattle.std.proofs.lemmas.List.{length-drop, length-take-le, map-append}
use Rattle.std.proofs.lemmas.Option.{get_or_from_slice_get, slice_get-map}
use Rattle.std.proofs.lemmas.Slice.Eq.{bytes_eq-Decides}
use Rattle.sudoers_text.specs.declared.token.Token.{Token}
use Rattle.sudoers_text.specs.Ascend.{AreOrderedTokens}
use Rattle.sudoers_text.specs.LineMode.{line_mode}
use Rattle.sudoers_grammar.specs.declared.node.Atom.{Atom}
use Rattle.sudoers_grammar.specs.declared.node.Atom.TheVariants as atom
use Rattle.sudoers_grammar.specs.declared.node.Kind.{Kind}
use Rattle.sudoers_grammar.specs.Line.{LineReadsAsNode}
use Rattle.sudoers_grammar.specs.Listed.{ListedMember, listed_members_of_node}
use Rattle.sudoers_grammar.specs.Node.{Member, Node}
use Rattle.sudoers_grammar.specs.Piece.{TokenWithBytes, tokens_with_bytes}
use Rattle.sudoers_grammar.proofs.Ascending.{TokensOfLinesAreOrdered}
use Rattle.sudoers_grammar.proofs.RenamedStarts.{ordered_tokens_end_no_earlier_than_start}
use Rattle.sudoers_tree.specs.declared.place.Span.{Span}
use Rattle.sudoers_tree.specs.declared.place.WalkLineSpot.{WalkLineSpot}
use Rattle.sudoers_tree.specs.Definition.{is_equal_kind}
use Rattle.sudoers_tree.specs.FilePlaces.{file_span_from_walk, mention_file_spans}
use Rattle.sudoers_tree.specs.Files.{lines_of_numbered_file}
use Rattle.sudoers_tree.specs.Line.{Line}
use Rattle.sudoers_tree.specs.Load.{LoadedPolicy, AreLinesAtSpots, IsLineAtSpot}
use Rattle.sudoers_tree.specs.Mention.{members_of_kind_among_listed, members_of_kind_in_line, mention_span_of_member, mentions_from_line_number, mentions_in_line}
use Rattle.sudoers_tree.specs.Policy.{IsCorrectlyParsed, texts_of_lines}
use Rattle.sudoers_tree.specs.Walk.{spot_of_walk_line}
use Rattle.sudoers_tree.proofs.Numbered.{first_of_drop_is_numbered_item, rest_of_drop_is_later_drop}
use Rattle.laws_load.specs.Mentioned.{NameStandsAtFileSpan}
use Rattle.laws_load.proofs.AliasTokens.{AllListedEndWithAliasTokens, EndsWithAliasToken, read_members_end_with_alias_tokens}
use Rattle.laws_load.proofs.ListProperties.{implied_property_holds_of_each, property_of_each_part_holds_of_flat_map, property_of_two_lists_holds_of_append, property_of_values_holds_of_map}

-- ---- tokens

-- The bytes of the line up to the end of the token, as many as its text has, are its text.
abbrev TextStandsAtItsEnd : List ℕ → TokenWithBytes → Type 0
TextStandsAtItsEnd line t = slice_range line (t.stop - length t.text) t.stop ≡ t.text

texts_of_ordered_tokens_stand_at_their_ends : (line : List ℕ) (from : ℕ) (tokens : List Token) → AreOrderedTokens from (length line) tokens
    → AllByRecursion (TextStandsAtItsEnd line) (tokens_with_bytes line tokens)
texts_of_ordered_tokens_stand_at_their_ends line from [] ordered = tt
texts_of_ordered_tokens_stand_at_their_ends line from (t ∷ tokens) ordered =
    (ap (λ n. slice_range line n t.stop) start, texts_of_ordered_tokens_stand_at_their_ends line t.stop tokens ordered.2)
  where
    text : List ℕ
    text = slice_range line t.start t.stop

    within : t.stop ≤ length line
    within = ordered_tokens_end_no_earlier_than_start t.stop (length line) tokens ordered.2

    size : length text ≡ t.stop - t.start
    size = length-take-le (t.stop - t.start) (drop t.start line) (omega (arith, within, length-drop t.start line))

    start : t.stop - length text ≡ t.start
    start = omega (arith, size, ordered.1)

-- ---- mentions in a line

abbrev pub MembersOfKindAreListed : Type 0
MembersOfKindAreListed = (k : Kind) (n : Node) → members_of_kind_in_line k n ≡ members_of_kind_among_listed k (listed_members_of_node n)

module _ (name : List ℕ) (number : ℕ) (text : List ℕ) where
  -- The part is of the line with this number, and the name stands there in its text.
  abbrev IsSpanOfName : Span → Type 0
  IsSpanOfName span = (span.line ≡ number) × (slice_range text span.start span.stop ≡ name)

  mention_of_atom_is_span_of_name : (m : Member) (a : Atom)
      → ((word : List ℕ) → a ≡ atom.Alias word → slice_range text (m.stop - length word) m.stop ≡ word)
      → AllByRecursion IsSpanOfName (mention_span_of_member number name m a)
  mention_of_atom_is_span_of_name m (atom.Alias word) stands = by (bytes_eq name word) refl
    where
      span : Span
      span = record { line = number; start = m.stop - length name; stop = m.stop }

      by : (t : Bool) → bytes_eq name word ≡ t → AllByRecursion IsSpanOfName (if t then span ∷ [] else [])
      by true e =
          let same : word ≡ name = sym ((bytes_eq-Decides name word).0 e) in
          ((refl, subst (λ w. slice_range text (m.stop - length w) m.stop ≡ w) same (stands word refl)), tt)
      by false e = tt
  mention_of_atom_is_span_of_name m a stands = tt

  abbrev EndsWithNameInText : Member → Type 0
  EndsWithNameInText = EndsWithAliasToken (TextStandsAtItsEnd text)

  mention_of_member_is_span_of_name : (m : Member) → EndsWithNameInText m → AllByRecursion IsSpanOfName (mention_span_of_member number name m m.atom)
  mention_of_member_is_span_of_name m ends = mention_of_atom_is_span_of_name m m.atom stands
    where
      stands : (word : List ℕ) → m.atom ≡ atom.Alias word → slice_range text (m.stop - length word) m.stop ≡ word
      stands word named =
          let last = ends word named in
          ap (λ n. slice_range text (n - length word) n) last.3
          ∙ ap (λ w. slice_range text (last.0.stop - length w) last.0.stop) (sym last.2)
          ∙ last.1
          ∙ last.2

  members_of_kind_end_with_alias_tokens : (k : Kind) (ls : List ListedMember) → AllListedEndWithAliasTokens (TextStandsAtItsEnd text) ls
      → AllByRecursion EndsWithNameInText (members_of_kind_among_listed k ls)
  members_of_kind_end_with_alias_tokens k [] all = tt
  members_of_kind_end_with_alias_tokens k (l ∷ ls) all = by (is_equal_kind k l.0) (members_of_kind_end_with_alias_tokens k ls all.1)
    where
      others : List Member
      others = members_of_kind_among_listed k ls

      by : (b : Bool) → AllByRecursion EndsWithNameInText others → AllByRecursion EndsWithNameInText (if b then l.1 ∷ others else others)
      by true later = (all.0, later)
      by false later = later

  mentions_in_line_are_spans_of_name : TokensOfLinesAreOrdered → MembersOfKindAreListed → (k : Kind) (n : Node) → LineReadsAsNode text n
      → AllByRecursion IsSpanOfName (mentions_in_line k name number n)
  mentions_in_line_are_spans_of_name ascend listed k n reads =
      let all_members = members_of_kind_in_line k n in
      property_of_each_part_holds_of_flat_map IsSpanOfName mentions all_members
      (implied_property_holds_of_each EndsWithNameInText (λ m. AllByRecursion IsSpanOfName (mentions m)) mention_of_member_is_span_of_name all_members members)
    where
      mentions : Member → List Span
      mentions m = mention_span_of_member number name m m.atom

      tokens : AllByRecursion (TextStandsAtItsEnd text) (tokens_with_bytes text reads.tokens)
      tokens = texts_of_ordered_tokens_stand_at_their_ends text 0 reads.tokens (ascend (line_mode text) text reads.tokens reads.has)

      all : AllListedEndWithAliasTokens (TextStandsAtItsEnd text) (listed_members_of_node n)
      all = read_members_end_with_alias_tokens (TextStandsAtItsEnd text) (tokens_with_bytes text reads.tokens) n tokens reads.reads

      members : AllByRecursion EndsWithNameInText (members_of_kind_in_line k n)
      members = subst (AllByRecursion EndsWithNameInText) (sym (listed k n)) (members_of_kind_end_with_alias_tokens k (listed_members_of_node n) all)

-- ---- mentions on the walk

-- A mention in a line of the walk stands where the line stands.
span_of_name_stands_in_file : (policy : LoadedPolicy) (name : List ℕ) (number : ℕ) (at : WalkLineSpot) (line : Line)
    → slice_get policy.walk.spots number ≡ Some at
    → IsLineAtSpot policy.files at line → (span : Span) → IsSpanOfName name number line.text span
    → NameStandsAtFileSpan policy name (file_span_from_walk policy.walk span)
span_of_name_stands_in_file policy name number at line there stands span is =
    ap (λ (s : WalkLineSpot). slice_range (slice_index_or (texts s.file) s.line []) span.start span.stop) spot
    ∙ ap (λ t. slice_range t span.start span.stop) text
    ∙ is.1
  where
    texts : ℕ → List (List ℕ)
    texts f = texts_of_lines (lines_of_numbered_file policy.files f)

    spot : spot_of_walk_line policy.walk span.line ≡ at
    spot = ap (spot_of_walk_line policy.walk) is.0 ∙ get_or_from_slice_get policy.walk.spots number at (record { file = 0; line = 0; row = 1 }) there

    numbered : slice_get (texts at.file) at.line ≡ Some line.text
    numbered =
        slice_get-map (λ (l : Line). l.text) (lines_of_numbered_file policy.files at.file) at.line
        ∙ ap (option_map (λ (l : Line). l.text)) stands.is_line

    text : slice_index_or (texts at.file) at.line [] ≡ line.text
    text = get_or_from_slice_get (texts at.file) at.line line.text [] numbered

module _ (ascend : TokensOfLinesAreOrdered) (listed : MembersOfKindAreListed) (policy : LoadedPolicy) (k : Kind) (name : List ℕ) where
  abbrev AllStandInFiles : List Span → Type 0
  AllStandInFiles spans = AllByRecursion (NameStandsAtFileSpan policy name) (map (file_span_from_walk policy.walk) spans)

  mentions_in_line_at_spot_stand : (n : ℕ) (at : WalkLineSpot) (line : Line) → slice_get policy.walk.spots n ≡ Some at
      → IsLineAtSpot policy.files at line → IsCorrectlyParsed line
      → AllStandInFiles (mentions_in_line k name n line.node)
  mentions_in_line_at_spot_stand n at line there stands said =
      property_of_values_holds_of_map (NameStandsAtFileSpan policy name) (file_span_from_walk policy.walk) mentions
      (implied_property_holds_of_each (IsSpanOfName name n line.text) (λ span. NameStandsAtFileSpan policy name (file_span_from_walk policy.walk span))
      (span_of_name_stands_in_file policy name n at line there stands) mentions spans)
    where
      mentions : List Span
      mentions = mentions_in_line k name n line.node

      spans : AllByRecursion (IsSpanOfName name n line.text) mentions
      spans = mentions_in_line_are_spans_of_name name n line.text ascend listed k line.node said

  mentions_in_last_lines_stand : (n : ℕ) (spots : List WalkLineSpot) (lines : List Line) → spots ≡ drop n policy.walk.spots
      → AreLinesAtSpots policy.files spots lines
      → AllByRecursion IsCorrectlyParsed lines → AllStandInFiles (mentions_from_line_number k name n lines)
  mentions_in_last_lines_stand n [] [] from stand said = tt
  mentions_in_last_lines_stand n [] (line ∷ lines) from stand said = absurd stand
  mentions_in_last_lines_stand n (at ∷ spots) [] from stand said = absurd stand
  mentions_in_last_lines_stand n (at ∷ spots) (line ∷ lines) from stand said =
      let here = mentions_in_line k name n line.node in
      let behind = mentions_from_line_number k name (n + 1) lines in
      let first = mentions_in_line_at_spot_stand n at line (first_of_drop_is_numbered_item spots policy.walk.spots n at from) stand.0 said.0 in
      let later = mentions_in_last_lines_stand (n + 1) spots lines (rest_of_drop_is_later_drop spots policy.walk.spots n at from) stand.1 said.1 in
      let place = file_span_from_walk policy.walk in
      subst (AllByRecursion (NameStandsAtFileSpan policy name)) (sym (map-append place here behind))
      (property_of_two_lists_holds_of_append (NameStandsAtFileSpan policy name) (map place here) (map place behind) first later)

  pub name_stands_at_its_mentions : AreLinesAtSpots policy.files policy.walk.spots policy.walk.lines
      → AllByRecursion IsCorrectlyParsed policy.walk.lines
      → AllByRecursion (NameStandsAtFileSpan policy name) (mention_file_spans k name policy.walk)
  name_stands_at_its_mentions stand said = mentions_in_last_lines_stand 0 policy.walk.spots policy.walk.lines refl stand said
