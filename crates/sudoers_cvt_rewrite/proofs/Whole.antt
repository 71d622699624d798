-- Whole lines that are written anew.
use Rattle.sudoers_cvt_rewrite.proofs.Common.{Bool, CmdSpec, Cmnd, CvtFault, Host, HostGroup, IsTooManyMembersOrNoMemoryFault, Kind, Line, LineRow, List, Member, Node, None, Option, PolicyChanges, Runas, Scope, Some, Tables, User}
use Rattle.sudoers_cvt_rewrite.proofs.Common.{[], ap, ap₂, arith, at_drop_all, at_drop_more, commands_of_command_expanded_if, drop, expanded_member_limit, false, flat_map, get_or, host_group_expanded_if, inl, inr, length}
use Rattle.sudoers_cvt_rewrite.proofs.Common.{line_node_expanded_if, line_of_row, specs_and_defaults_member_count, textless_lines_with_nodes_mapped, map, member_count_of_rules, node_expanded_if_wanted, node_filtered_if_any}
use Rattle.sudoers_cvt_rewrite.proofs.Common.{node_in_tables, spec_or_defaults_member_count, refl, rewritten_lines_of_policy, runas_spec_expanded_if, scope_expanded_if, scope_list_expanded_if, sym, text_in_tables, true, ℕ, ◌++◌}
use Rattle.sudoers_cvt_rewrite.proofs.Common.{◌+◌, ◌<◌, ◌∙◌, ◌∷◌, ◌≡◌, ◌≤◌, ◌⊎◌}
use Rattle.std.specs.Option.{option_map}
use Rattle.sudoers_grammar.specs.Node as node
use Rattle.sudoers_cvt_rules.specs.declared.fault.CvtFault.TheVariants.{Cycle, TooLarge, NoMemory}
use Rattle.sudoers_cvt_rewrite.specs.Expand.{expanded_node, expanded_scope, expanded_scope_list, command_with_runas_and_member}
use Rattle.sudoers_cvt_rewrite.proofs.Extending.{equal_functions_map_lists_alike, equal_functions_map_options_alike}

module _ (lines : List Line) where
  -- ---- aliases are replaced

  list_expanded : (k : Kind) (ms : List Member) → scope_list_expanded_if true lines k ms ≡ expanded_scope_list lines k ms
  list_expanded User ms = refl
  list_expanded Runas ms = refl
  list_expanded Host ms = refl
  list_expanded Cmnd ms = refl

  scope_expanded : (s : Scope) → scope_expanded_if true lines s ≡ expanded_scope lines s
  scope_expanded s i = record { kind = s.kind; members = list_expanded s.kind s.members i }

  pub node_expanded : (n : Node) → line_node_expanded_if true lines n ≡ expanded_node lines n
  node_expanded (node.Defaults scope params) = ap (λ s. node.Defaults s params) (equal_functions_map_options_alike (scope_expanded_if true lines) (expanded_scope lines) scope_expanded scope)
  node_expanded (node.Spec users groups) = refl
  node_expanded (node.Alias k defs) = refl
  node_expanded node.Blank = refl
  node_expanded node.Comment = refl
  node_expanded (node.Include dir path) = refl

  -- ---- nothing is replaced

  map_plain : {X : Type 0} (f : X → X) → ((x : X) → f x ≡ x) → (xs : List X) → map f xs ≡ xs
  map_plain f plain [] = refl
  map_plain f plain (x ∷ xs) = ap₂ (λ y ys. y ∷ ys) (plain x) (map_plain f plain xs)

  option_plain : {X : Type 0} (f : X → X) → ((x : X) → f x ≡ x) → (o : Option X) → option_map f o ≡ o
  option_plain f plain None = refl
  option_plain f plain (Some x) = ap Some (plain x)

  command_plain : (c : CmdSpec) → commands_of_command_expanded_if false lines c ≡ c ∷ []
  command_plain c = ap (λ r. command_with_runas_and_member r c c.member ∷ []) (option_plain (runas_spec_expanded_if false lines) (λ r. refl) c.runas)

  commands_plain : (cs : List CmdSpec) → flat_map (commands_of_command_expanded_if false lines) cs ≡ cs
  commands_plain [] = refl
  commands_plain (c ∷ cs) = ap (λ xs. xs ++ flat_map (commands_of_command_expanded_if false lines) cs) (command_plain c) ∙ ap (λ xs. c ∷ xs) (commands_plain cs)

  group_plain : (g : HostGroup) → host_group_expanded_if false lines g ≡ g
  group_plain g i = record { hosts = g.hosts; commands = commands_plain g.commands i }

  list_plain : (k : Kind) (ms : List Member) → scope_list_expanded_if false lines k ms ≡ ms
  list_plain User ms = refl
  list_plain Runas ms = refl
  list_plain Host ms = refl
  list_plain Cmnd ms = refl

  scope_plain : (s : Scope) → scope_expanded_if false lines s ≡ s
  scope_plain s i = record { kind = s.kind; members = list_plain s.kind s.members i }

  pub node_plain : (n : Node) → line_node_expanded_if false lines n ≡ n
  node_plain (node.Defaults scope params) = ap (λ s. node.Defaults s params) (option_plain (scope_expanded_if false lines) scope_plain scope)
  node_plain (node.Spec users groups) = ap (λ gs. node.Spec users gs) (map_plain (host_group_expanded_if false lines) group_plain groups)
  node_plain (node.Alias k defs) = refl
  node_plain node.Blank = refl
  node_plain node.Comment = refl
  node_plain (node.Include dir path) = refl

  -- a node whose aliases are replaced, or that stays
  pub node_is : (expand : Bool) (n : Node) → line_node_expanded_if expand lines n ≡ node_expanded_if_wanted expand lines n
  node_is true n = node_expanded n
  node_is false n = node_plain n

-- Each line is one that is filtered, and then expanded.
mapped_nodes_are_rewritten_lines : (lines : List Line) (c : PolicyChanges) → textless_lines_with_nodes_mapped (λ n. line_node_expanded_if c.expand lines (node_filtered_if_any lines c.filter c.prune n)) lines ≡ rewritten_lines_of_policy c lines
mapped_nodes_are_rewritten_lines lines c =
    equal_functions_map_lists_alike (λ (line : Line). record { text = []; node = line_node_expanded_if c.expand lines (node_filtered_if_any lines c.filter c.prune line.node) })
    (λ (line : Line). record { text = []; node = node_expanded_if_wanted c.expand lines (node_filtered_if_any lines c.filter c.prune line.node) })
    (λ line i. record { text = []; node = node_is lines c.expand (node_filtered_if_any lines c.filter c.prune line.node) i }) lines

pub mapped_nodes_of_equal_lines_are_rewritten : (lines others : List Line) (c : PolicyChanges) (expand : Bool) → others ≡ lines → expand ≡ c.expand
    → textless_lines_with_nodes_mapped (λ n. line_node_expanded_if expand others (node_filtered_if_any others c.filter c.prune n)) others ≡ rewritten_lines_of_policy c lines
mapped_nodes_of_equal_lines_are_rewritten lines others c expand e f =
    ap (λ ls. textless_lines_with_nodes_mapped (λ n. line_node_expanded_if expand ls (node_filtered_if_any ls c.filter c.prune n)) ls) e
    ∙ ap (λ b. textless_lines_with_nodes_mapped (λ n. line_node_expanded_if b lines (node_filtered_if_any lines c.filter c.prune n)) lines) f
    ∙ mapped_nodes_are_rewritten_lines lines c

-- ---- refusals

pub refusal_grows_with_count_if_expanding : (expand : Bool) (n m : ℕ) (fault : CvtFault) → IsTooManyMembersOrNoMemoryFault expand n fault → (expand ≡ true → n ≤ m) → IsTooManyMembersOrNoMemoryFault expand m fault
refusal_grows_with_count_if_expanding expand n m fault (inl e) le = inl e
refusal_grows_with_count_if_expanding expand n m fault (inr (e, is, less)) le = let more = le is in inr (e, is, omega arith)

-- The rules have the members of the lines, and those of definitions.
pub line_members_are_counted_in_rules : (lines : List Line) → specs_and_defaults_member_count lines ≤ member_count_of_rules lines
line_members_are_counted_in_rules lines = omega arith

-- a fault of changing a policy, of which `round` says whether a reachable alias is cyclic, and whose new rules have so many members
abbrev pub IsPolicyRewriteFault : Bool → Bool → ℕ → CvtFault → Type 0
IsPolicyRewriteFault expand round count fault = (fault ≡ NoMemory) ⊎ (((fault ≡ Cycle) × (round ≡ true))
    ⊎ ((fault ≡ TooLarge) × (round ≡ false) × (expand ≡ true) × (expanded_member_limit < count)))

-- ---- lines

module _ (base : Tables) (written : Node → Node) (rows : List LineRow) where
  abbrev pub lines_left : List LineRow → List Line
  lines_left rs = textless_lines_with_nodes_mapped written (map (line_of_row base) rs)

  pub line_next : (u : Tables) (i : ℕ) (d : LineRow) (v : LineRow) → i < length rows → text_in_tables u v.text ≡ []
      → node_in_tables u v.node ≡ written (node_in_tables base (get_or rows i d).node)
      → lines_left (drop i rows) ≡ line_of_row u v ∷ lines_left (drop (i + 1) rows)
  line_next u i d v h e f = at_drop_more lines_left rows i d h ∙ (λ j. record { text = sym e j; node = sym f j } ∷ lines_left (drop (i + 1) rows))

  line_at : (i : ℕ) (d : LineRow) → i < length rows
      → specs_and_defaults_member_count (lines_left (drop i rows)) ≡ spec_or_defaults_member_count (written (node_in_tables base (get_or rows i d).node)) + specs_and_defaults_member_count (lines_left (drop (i + 1) rows))
  line_at i d h = at_drop_more (λ rs. specs_and_defaults_member_count (lines_left rs)) rows i d h

  pub line_counted : (i : ℕ) (d : LineRow) (count new total : ℕ) → i < length rows
      → new ≡ count + spec_or_defaults_member_count (written (node_in_tables base (get_or rows i d).node))
      → count + specs_and_defaults_member_count (lines_left (drop i rows)) ≡ total → new + specs_and_defaults_member_count (lines_left (drop (i + 1) rows)) ≡ total
  line_counted i d count new total h e is = let at = line_at i d h in omega (arith, at, e, is)

  pub line_within : (i : ℕ) (d : LineRow) (count total : ℕ) → i < length rows
      → count + specs_and_defaults_member_count (lines_left (drop i rows)) ≡ total → count + spec_or_defaults_member_count (written (node_in_tables base (get_or rows i d).node)) ≤ total
  line_within i d count total h is = let at = line_at i d h in omega (arith, at, is)

  pub counted_whole : (i count : ℕ) (new : List Line) → length rows ≤ i → new ≡ lines_left rows
      → count + specs_and_defaults_member_count (lines_left (drop i rows)) ≡ specs_and_defaults_member_count (lines_left rows) → count ≡ specs_and_defaults_member_count new
  counted_whole i count new h e is =
      let done : specs_and_defaults_member_count (lines_left (drop i rows)) ≡ 0 = at_drop_all (λ rs. specs_and_defaults_member_count (lines_left rs)) rows i h in
      let same : specs_and_defaults_member_count new ≡ specs_and_defaults_member_count (lines_left rows) = ap specs_and_defaults_member_count e in
      omega (arith, done, same, is)

  pub refused_whole : (expand : Bool) (i : ℕ) (d : LineRow) (count : ℕ) (lines : List Line) (fault : CvtFault) → map (line_of_row base) rows ≡ lines → i < length rows
      → IsTooManyMembersOrNoMemoryFault expand (count + spec_or_defaults_member_count (written (node_in_tables base (get_or rows i d).node))) fault
      → (expand ≡ true → count + specs_and_defaults_member_count (lines_left (drop i rows)) ≡ specs_and_defaults_member_count (lines_left rows))
      → IsTooManyMembersOrNoMemoryFault expand (specs_and_defaults_member_count (textless_lines_with_nodes_mapped written lines)) fault
  refused_whole expand i d count lines fault same h refused is =
      refusal_grows_with_count_if_expanding expand (count + spec_or_defaults_member_count (written (node_in_tables base (get_or rows i d).node))) (specs_and_defaults_member_count (textless_lines_with_nodes_mapped written lines)) fault refused
      (λ e.
      let within = line_within i d count (specs_and_defaults_member_count (lines_left rows)) h (is e) in
      let all : specs_and_defaults_member_count (lines_left rows) ≡ specs_and_defaults_member_count (textless_lines_with_nodes_mapped written lines) = ap (λ ls. specs_and_defaults_member_count (textless_lines_with_nodes_mapped written ls)) same in
      omega (arith, within, all))
