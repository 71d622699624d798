-- User specifications with the numbers of their lines, and those among them of which no row fits a request.
use Rattle.std.specs.Prelude.{◌≡◌, ℕ, Bool, true, false, List, map}
use Rattle.std.specs.List.{AllByRecursion}
use Rattle.sudoers_grammar.specs.declared.node.Atom.{Atom}
use Rattle.sudoers_line_rows.specs.View.{host_groups_of_view, members_of_view}
use Rattle.sudoers_tree.specs.Line.{Line}
use Rattle.sudoers_match_member.specs.declared.request.Request.{Request}
use Rattle.sudoers_match.specs.declared.specs_for_users.SpecOnLine.{SpecOnLine}
use Rattle.sudoers_match.specs.Answer.{RowFitsRequestByTest}
use Rattle.sudoers_match.specs.Found.{specs_with_line_numbers}
use Rattle.sudoers_match.specs.Rows.{PrivilegeRow, AreRowsPerFlatAtomOfSpec}
use Rattle.sudoers_match.specs.Specs.{UserSpec, user_spec_of_users_and_groups}

-- what is held of a user specification: the number of its line, and what it says
abbrev pub numbered_spec_of_view : SpecOnLine → ℕ × UserSpec
numbered_spec_of_view s = (s.line, user_spec_of_users_and_groups (members_of_view s.users) (host_groups_of_view s.groups))

-- If it does not matter, none of its rows fits the request, by this test of the command.
abbrev pub MattersIfRowFits : List Line → (Atom → Bool) → Request → SpecOnLine → Type 0
MattersIfRowFits lines test r s = s.matters ≡ false → (i : ℕ) (rows : List PrivilegeRow)
    → AreRowsPerFlatAtomOfSpec lines i (numbered_spec_of_view s).1 rows → AllByRecursion (λ row. RowFitsRequestByTest lines test r row → ⊥) rows

-- These are all user specifications, in file order. Each matters that has a row that fits the request.
pub record AreSpecsForRequest (lines : List Line) (test : Atom → Bool) (r : Request) (specs : List SpecOnLine) : Type 0 where
  pub all : map numbered_spec_of_view specs ≡ specs_with_line_numbers 0 lines
  pub matter : AllByRecursion (MattersIfRowFits lines test r) specs

-- Both are for one host and one moment. With `of_target` they are for one target, too.
pub record AreRequestsOfTwoUsers (of_target : Bool) (r other : Request) : Type 0 where
  pub long : other.who.long_host ≡ r.who.long_host
  pub short : other.who.short_host ≡ r.who.short_host
  pub interfaces : other.who.interfaces ≡ r.who.interfaces
  pub moment : other.moment ≡ r.moment
  pub target : of_target ≡ true → other.target ≡ r.target
