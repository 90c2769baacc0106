-- A policy: the names that a world gives to levels, categories and grades.
use Rattle.std.specs.Prelude.{◌≡◌, ℕ, ◌+◌, ◌-◌, Bool, not, ◌&&◌, ◌==◌, nat_lt, cond, List, [], length, Option, None, Some}
use Rattle.std.specs.FinSet as set
use Rattle.std.specs.List.{list_all, list_any, range_with_len}
use Rattle.lab_lattice.specs.Grade.{Grade, grade_of}
use Rattle.lab_lattice.specs.Label.{Label, dominates}
use Rattle.lab_text.specs.Lists.{all_lists, limit_of, needs_names}
use Rattle.lab_text.specs.Names.{Names, is_label_name, are_distinct}
use Rattle.lab_text.specs.declared.lists.NameList.{NameList}
use Rattle.lab_text.specs.declared.lists.NameList.TheVariants.{Levels, Categories, Grades}
use Rattle.lab_text.specs.declared.policy.PolicyError.{PolicyError}
use Rattle.lab_text.specs.declared.policy.PolicyError.TheVariants as error

-- the names of levels, lowest first, of categories, and of grades, lowest first
pub record PolicyNames : Type 0 where
  pub levels : Names
  pub cats : Names
  pub grades : Names

-- the names in a list
abbrev pub names_of : PolicyNames → NameList → Names
names_of p Levels = p.levels
names_of p Categories = p.cats
names_of p Grades = p.grades

-- the same names but for those in a list
abbrev pub with_names : PolicyNames → NameList → Names → PolicyNames
with_names p Levels names = record p { levels = names }
with_names p Categories names = record p { cats = names }
with_names p Grades names = record p { grades = names }

-- no names in any list
abbrev pub no_names : PolicyNames
no_names = record { levels = []; cats = []; grades = [] }

-- why names make no policy, if they make none
unfoldable pub names_fault : PolicyNames → Option PolicyError
names_fault p =
    cond (list_any (λ list. needs_names list && length (names_of p list) == 0) all_lists) (Some error.Empty)
    (cond (list_any (λ list. nat_lt (limit_of list) (length (names_of p list))) all_lists) (Some error.TooMany)
    (cond (not (list_all (λ list. list_all is_label_name (names_of p list)) all_lists)) (Some error.BadName)
    (cond (not (list_all (λ list. are_distinct (names_of p list)) all_lists)) (Some error.Repeated) None)))

-- names make no policy for this cause, if memory did not run out
abbrev pub MakeNone : PolicyNames → PolicyError → Type 0
MakeNone p (error.NoMemory _) = Unit {0}
MakeNone p e = names_fault p ≡ Some e

-- names that make a policy: 1 to 16 levels, up to 64 categories and up to 16 grades, and no name twice in its list
abbrev pub MakePolicy : PolicyNames → Type 0
MakePolicy p = names_fault p ≡ None

-- the grade of the name at a place, counted from 0: the last name has grade 15, the one before it 14, and so on
abbrev pub grade_at : Names → ℕ → Grade
grade_at names i = grade_of (16 - length names + i)

-- the lowest grade: the first name's, or 15 where there is none
abbrev pub lowest_grade : Names → Grade
lowest_grade names = grade_at names 0

-- the label of a level's number, categories' numbers and a grade
abbrev pub label_with : ℕ → List ℕ → Grade → Label
label_with level cats grade = record { first = record { first = level; second = set.from_list cats }; second = record { inner = grade } }

-- the highest level with all categories and the lowest grade
unfoldable pub top_of : PolicyNames → Label
top_of p = label_with (length p.levels - 1) (range_with_len 0 (length p.cats)) (lowest_grade p.grades)

-- a label is valid in a policy where the policy's top dominates it
abbrev pub is_valid : PolicyNames → Label → Bool
is_valid p label = dominates (top_of p) label
