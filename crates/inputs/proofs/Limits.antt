-- The limits of the domain have the bits that the code has. Assumes nothing.
use mathlib.Core.Path.{◌≡◌, refl}
use lib.Ieee.{round, of_bits}
use Rattle.binary64.specs.Steps.{#, decimal}

pub far : decimal 3000000000 0 ≡ # 0x41E65A0BC0000000
unfolding round of_bits
far = refl

pub micro : decimal 1 6 ≡ # 0x3EB0C6F7A0B5ED8D
unfolding round of_bits
micro = refl

pub tera : decimal 1000000000000 0 ≡ # 0x426D1A94A2000000
unfolding round of_bits
tera = refl

pub high : decimal 100000 0 ≡ # 0x40F86A0000000000
unfolding round of_bits
high = refl

pub hundred : decimal 100 0 ≡ # 0x4059000000000000
unfolding round of_bits
hundred = refl
