-- What tokens say, as rows.
use Rattle.std.proofs.Common.{◌≡◌, ℕ, Bool, List, [], ◌∷◌, drop, Option, Some, None, option_map, sym, ap, ap₂, ◌∙◌}
use Rattle.std.proofs.lemmas.Option.{same_Some}
use Rattle.sudoers_grammar.specs.declared.node.Kind.{Kind}
use Rattle.sudoers_grammar.specs.declared.node.Atom.{Atom}
use Rattle.sudoers_grammar.specs.Node.{Member}
use Rattle.sudoers_grammar.specs.Piece.{TokenWithBytes}
use Rattle.sudoers_grammar.specs.Atom.{atom_of_token}
use Rattle.sudoers_line_rows.specs.declared.rows.AtomRow.{AtomRow}
use Rattle.sudoers_line_rows.specs.declared.rows.MemberRow.{MemberRow}
use Rattle.sudoers_line_rows.specs.declared.rows.Tables.{Tables}
use Rattle.sudoers_line_reader.specs.Reader.{ReadOutcome, Read, Halt, one_token_reader}
use Rattle.sudoers_line_reader.specs.Descent.{member_of_token_and_atom, member_of_single_token}
use Rattle.sudoers_line_reader.specs.internal.Cursor.{first_token_option}
use Rattle.sudoers_line_rows.specs.Tables.{TablesHaveGrown, RowMeansForGood, OptionalRowMeansForGood, RowMeaningLasts, atom_in_tables, member_in_tables}
use Rattle.sudoers_line_reader.proofs.Keeps.{token_with_meaning_is_read, token_without_meaning_is_halted_at}
use Rattle.sudoers_line_rows.proofs.Growth.{tables_have_grown_from_themselves, table_growth_is_transitive}

-- the first token, and those behind it
pub first_token_heads_tokens : (ts : List TokenWithBytes) (t : TokenWithBytes) → Some t ≡ first_token_option ts → ts ≡ t ∷ drop 1 ts
first_token_heads_tokens [] t e = absurd cc
first_token_heads_tokens (u ∷ ts) t e = ap (λ (x : TokenWithBytes). x ∷ ts) (sym (same_Some t u e))

-- A token that says nothing is not taken.
pub first_token_without_meaning_is_halted_at : {X : Type 0} (says : TokenWithBytes → Option X) (ts : List TokenWithBytes) (t : TokenWithBytes) → Some t ≡ first_token_option ts → says t ≡ None → one_token_reader says ts ≡ Halt ts
first_token_without_meaning_is_halted_at {X} says ts t e none = ap (one_token_reader says) (first_token_heads_tokens ts t e) ∙ token_without_meaning_is_halted_at says t (drop 1 ts) none ∙ ap (λ (l : List TokenWithBytes). Halt l) (sym (first_token_heads_tokens ts t e))

-- One that says something is taken.
pub first_token_with_meaning_is_read : {X : Type 0} (says : TokenWithBytes → Option X) (ts left : List TokenWithBytes) (t : TokenWithBytes) (x : X) → Some t ≡ first_token_option ts → says t ≡ Some x → left ≡ drop 1 ts → one_token_reader says ts ≡ Read x left
first_token_with_meaning_is_read says ts left t x e some f = ap (one_token_reader says) (first_token_heads_tokens ts t e) ∙ token_with_meaning_is_read says t (drop 1 ts) x some ∙ ap (Read x) (sym f)

-- What is read is kept for good.
pub lasting_row_is_read_for_good : {R X : Type 0} (view : Tables → R → X) (t : Tables) (r : R) (x : X) (o : ReadOutcome X) (left : List TokenWithBytes) → RowMeansForGood view t r x → o ≡ Read x left → (o ≡ Read (view t r) left) × RowMeaningLasts view t r
lasting_row_is_read_for_good view t r x o left keeps read = (read ∙ ap (λ y. Read y left) (sym (keeps t (tables_have_grown_from_themselves t))), λ u g. keeps u g ∙ sym (keeps t (tables_have_grown_from_themselves t)))

-- What is read in two parts is kept for good, though the tables grow in between.
pub two_lasting_rows_are_read_for_good : {A B X Y Z : Type 0} (va : Tables → A → X) (vb : Tables → B → Y) (made : X → Y → Z) (t u : Tables) (a : A) (b : B) (o : ReadOutcome Z) (left : List TokenWithBytes) → RowMeaningLasts va t a → RowMeaningLasts vb u b → TablesHaveGrown t u → o ≡ Read (made (va t a) (vb u b)) left
    → (o ≡ Read (made (va u a) (vb u b)) left) × ((v : Tables) → TablesHaveGrown u v → made (va v a) (vb v b) ≡ made (va u a) (vb u b))
two_lasting_rows_are_read_for_good va vb made t u a b o left la lb g read = (read ∙ ap (λ x. Read (made x (vb u b)) left) (sym (la u g)), λ v h. ap₂ made (la v (table_growth_is_transitive t u v g h) ∙ sym (la u g)) (lb v h))

-- ---- atoms

pub token_without_atom_row_is_no_member : (k : Kind) (b : Bool) (t : TokenWithBytes) (u : Tables) (o : Option AtomRow) → OptionalRowMeansForGood atom_in_tables u o (atom_of_token k t) → o ≡ None → member_of_single_token k b t ≡ None
token_without_atom_row_is_no_member k b t u o keeps none = ap (option_map (member_of_token_and_atom b [] t)) (sym (keeps u (tables_have_grown_from_themselves u)) ∙ ap (option_map (atom_in_tables u)) none)

pub token_with_atom_row_is_member : (k : Kind) (b : Bool) (t : TokenWithBytes) (u v : Tables) (o : Option AtomRow) (row : AtomRow) → OptionalRowMeansForGood atom_in_tables u o (atom_of_token k t) → o ≡ Some row → TablesHaveGrown u v → member_of_single_token k b t ≡ Some (member_of_token_and_atom b [] t (atom_in_tables v row))
token_with_atom_row_is_member k b t u v o row keeps some g = ap (option_map (member_of_token_and_atom b [] t)) (sym (keeps v g) ∙ ap (option_map (atom_in_tables v)) some)

-- What is kept of an atom is the same later.
pub atom_row_is_same_in_grown_tables : (k : Kind) (t : TokenWithBytes) (u v : Tables) (o : Option AtomRow) (row : AtomRow) → OptionalRowMeansForGood atom_in_tables u o (atom_of_token k t) → o ≡ Some row → TablesHaveGrown u v → atom_in_tables v row ≡ atom_in_tables u row
atom_row_is_same_in_grown_tables k t u v o row keeps some g =
    same_Some (atom_in_tables v row) (atom_in_tables u row)
    (ap (option_map (atom_in_tables v)) (sym some) ∙ keeps v g ∙ sym (keeps u (tables_have_grown_from_themselves u)) ∙ ap (option_map (atom_in_tables u)) some)

abbrev pub member_row_of_single_token : ℕ → Bool → AtomRow → MemberRow
member_row_of_single_token stop b row = record { start = 0; stop = stop; negated = b; digests = record { from = 0; to = 0 }; atom = row }

-- The row of a token says what the token says.
pub member_of_token_is_that_of_its_row : (v : Tables) (b : Bool) (t : TokenWithBytes) (row : AtomRow) (stop : ℕ) → stop ≡ t.stop → member_of_token_and_atom b [] t (atom_in_tables v row) ≡ member_in_tables v (member_row_of_single_token stop b row)
member_of_token_is_that_of_its_row v b t row stop e = ap (λ (n : ℕ). let made : Member = record { start = 0; stop = n; negated = b; digests = []; atom = atom_in_tables v row } in made) (sym e)

pub member_row_keeps_meaning_with_its_atom : (u v : Tables) (b : Bool) (row : AtomRow) (stop : ℕ) → atom_in_tables v row ≡ atom_in_tables u row → member_in_tables v (member_row_of_single_token stop b row) ≡ member_in_tables u (member_row_of_single_token stop b row)
member_row_keeps_meaning_with_its_atom u v b row stop e = ap (λ (a : Atom). let made : Member = record { start = 0; stop = stop; negated = b; digests = []; atom = a } in made) e
