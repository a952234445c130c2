-- `find_fixes::decimals::digits_of`: the digits so far and the bytes that are left come to what all bytes do.
use Rattle.std.proofs.Common.{◌≡◌, drop}
use Rattle.find_fixes.specs.Decimals.{begun, digits_of}
use Rattle.find_fixes.proofs.decimals.digits_of.Given as goal

abbrev pub invariant-loop-byte : goal.invariant-loop-byte
invariant-loop-byte l = digits_of l.d (drop l.byte-index l.text) ≡ digits_of begun l.text
