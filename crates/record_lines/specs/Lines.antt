-- THE TOOL'S LINES (01, the tool), each with the newline that ends it. Assumes nothing.
use Rattle.std.specs.Prelude.{ℕ, List, ◌++◌}
use Rattle.records.specs.declared.Answer.{Answer}
use Rattle.records.specs.declared.Answer.TheVariants.{Identified, SetUp, AudioRead, Refused, Unknown, TooLong}
use Rattle.record_lines.specs.Text.{text, decimal}

-- what a record came to, behind its number
unfoldable pub words : Answer → List ℕ
words (Identified i) =
    text " identity channels " ++ decimal i.channels ++ text " rate " ++ decimal i.rate
    ++ text " blocks " ++ decimal i.blocksize0 ++ text " " ++ decimal i.blocksize1
words (SetUp books modes) = text " setup books " ++ decimal books ++ text " modes " ++ decimal modes
words (AudioRead block samples codewords) = text " audio block " ++ decimal block ++ text " samples " ++ decimal samples ++ text " words " ++ decimal codewords
words (Refused number) = text " refused " ++ decimal number
words Unknown = text " kind unknown"
words TooLong = text " too long"

-- record n
unfoldable pub line : ℕ → Answer → List ℕ
line n a = decimal n ++ words a ++ text "\n"

-- record n is one that the input ends inside of
unfoldable pub torn_line : ℕ → List ℕ
torn_line n = decimal n ++ text " torn\n"

-- the last line: n whole records
unfoldable pub end_line : ℕ → List ℕ
end_line n = text "end " ++ decimal n ++ text "\n"
