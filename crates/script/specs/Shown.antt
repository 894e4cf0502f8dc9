-- What is wrong with a script, in words. Assumes nothing.
use Rattle.std.specs.Prelude.{ℕ, List, ◌++◌, codes, decimal}
use Rattle.words.specs.Shown.{phrase}
use Rattle.script.specs.declared.LineFault.{LineFault}
use Rattle.script.specs.declared.ScriptError.{ScriptError}
use Rattle.script.specs.declared.ScriptError.TheVariants.{Faulty, NoMemory}

abbrev pub fault_text : LineFault → List ℕ
fault_text f = codes "line " ++ (decimal f.line ++ (codes ": " ++ phrase f.wrong))

abbrev pub error_text : ScriptError → List ℕ
error_text (Faulty f) = fault_text f
error_text NoMemory = codes "out of memory"
