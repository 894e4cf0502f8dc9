-- What is wrong with a line, in words. Assumes nothing.
use Rattle.std.specs.Prelude.{ℕ, List, ◌++◌, codes, decimal}
use Rattle.words.specs.declared.wrong.Wrong.{Wrong}
use Rattle.words.specs.declared.wrong.Wrong.TheVariants.{UnknownCommand, MissingWord, UnexpectedWord, NotAnId, NotANumber, NoSuchCard, NoSuchLock, SetUpAlready, NoNewline, Empty}

abbrev pub phrase : Wrong → List ℕ
phrase UnknownCommand = codes "unknown command"
phrase MissingWord = codes "a word is missing"
phrase UnexpectedWord = codes "a word too many"
phrase NotAnId = codes "not a number from 1 to 65535"
phrase NotANumber = codes "not a number from 0 to 4294967295"
phrase (NoSuchCard c) = codes "no card " ++ (decimal c ++ codes " is set up above")
phrase (NoSuchLock l) = codes "no lock " ++ (decimal l ++ codes " is set up above")
phrase SetUpAlready = codes "set up already"
phrase NoNewline = codes "no newline at the end"
phrase Empty = codes "no command"
