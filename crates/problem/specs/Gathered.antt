-- The receptions of a fit, gathered: entry a of each array is that of reception `index[a]`. Definitions only.
use Rattle.std.specs.Prelude.{List, ℕ, zero, suc, ◌+◌, ◌*◌, get_or, set, Float}
use Rattle.dense.specs.Entries.{nth}
use Rattle.problem.specs.Problem.{site_at}

-- index[a]
abbrev pub pick : List ℕ → ℕ → ℕ
pick index a = get_or index a 0

-- the first k gathered values, in the array out
unfoldable pub gather_to : List Float → List ℕ → List Float → ℕ → List Float
gather_to values index out zero = out
gather_to values index out (suc a) = set (gather_to values index out a) a (nth values (pick index a))

-- a site at place a of the array
abbrev pub put_site : List Float → ℕ → List Float → List Float
put_site sites a site = set (set (set sites (3 * a) (nth site 0)) (3 * a + 1) (nth site 1)) (3 * a + 2) (nth site 2)

-- the first k gathered sites
unfoldable pub sites_to : List Float → List ℕ → List Float → ℕ → List Float
sites_to sites index out zero = out
sites_to sites index out (suc a) = put_site (sites_to sites index out a) a (site_at sites (pick index a))
