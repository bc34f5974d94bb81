-- Document 01's table of numbers, as a function of the answer: its number, and the values that go with it.
-- Definitions only.
use Rattle.std.specs.Prelude.{List, [], ◌∷◌, ℕ, get_or, ⊤, Result, Ok, Err}
use Rattle.answers.specs.declared.Refusal.{Refusal}
use Rattle.answers.specs.declared.Refusal.TheVariants.{Size, Limit, Shape, Pattern, Split, Node, NoEntry, NoPlace, Level, Room, Singular}

-- the number of each refusal, in the table's order, which is the order of checking
abbrev pub refusal_number : Refusal → ℕ
refusal_number Size = 1
refusal_number Limit = 10
refusal_number Shape = 2
refusal_number Pattern = 3
refusal_number Split = 11
refusal_number Node = 6
refusal_number NoEntry = 7
refusal_number NoPlace = 8
refusal_number Level = 5
refusal_number Room = 4
refusal_number (Singular row) = 9

-- what a call answers: what it found, or why it refuses
abbrev pub AnswerOf : Type 0 → Type 0
AnswerOf A = Result A Refusal

-- what a call answers that has nothing else to say
abbrev pub Answer : Type 0
Answer = AnswerOf ⊤

-- the number of an answer: 0 is done
abbrev pub number_of : {A : Type 0} → AnswerOf A → ℕ
number_of (Ok found) = 0
number_of (Err why) = refusal_number why

-- what a refusal carries beside its number: 9 its row, the others nothing
abbrev pub refusal_values : Refusal → List ℕ
refusal_values Size = []
refusal_values Limit = []
refusal_values Shape = []
refusal_values Pattern = []
refusal_values Split = []
refusal_values Node = []
refusal_values NoEntry = []
refusal_values NoPlace = []
refusal_values Level = []
refusal_values Room = []
refusal_values (Singular row) = row ∷ []

abbrev pub values_of : {A : Type 0} → AnswerOf A → List ℕ
values_of (Ok found) = []
values_of (Err why) = refusal_values why

-- the row of 9, and 0 where an answer carries none
abbrev pub refusal_row : Refusal → ℕ
refusal_row why = get_or (refusal_values why) 0 0

abbrev pub row_of : {A : Type 0} → AnswerOf A → ℕ
row_of answer = get_or (values_of answer) 0 0
