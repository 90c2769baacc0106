-- The lists of names that a policy has.
use Rattle.std.specs.Prelude.{ℕ, Bool, true, false, List, [], ◌∷◌, Option, None, Some, codes}
use Rattle.lab_text.specs.declared.lists.NameList.{NameList}
use Rattle.lab_text.specs.declared.lists.NameList.TheVariants.{Levels, Categories, Grades}

-- the lists in the order of their lines
abbrev pub all_lists : List NameList
all_lists = Levels ∷ Categories ∷ Grades ∷ []

-- the list whose line comes next
abbrev pub next_list : NameList → Option NameList
next_list Levels = Some Categories
next_list Categories = Some Grades
next_list Grades = None

-- the word with which the line of a list begins
abbrev pub keyword_of : NameList → List ℕ
keyword_of Levels = codes "levels"
keyword_of Categories = codes "categories"
keyword_of Grades = codes "grades"

-- how many names a list may have
abbrev pub limit_of : NameList → ℕ
limit_of Levels = 16
limit_of Categories = 64
limit_of Grades = 16

-- whether a list has to have a name
abbrev pub needs_names : NameList → Bool
needs_names Levels = true
needs_names Categories = false
needs_names Grades = false

-- whether a list without names has no line
abbrev pub line_is_optional : NameList → Bool
line_is_optional Levels = false
line_is_optional Categories = false
line_is_optional Grades = true
