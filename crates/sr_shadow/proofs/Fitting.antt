-- The entries of a ledger keep fitting: each stands where the tables have a place, and was taken before so many were.
use Rattle.std.proofs.Common.{◌≡◌, ℕ, zero, suc, ◌+◌, Bool, true, false, cond, not, List, [], ◌∷◌, ◌++◌, find, Option, Some, sym, subst, arith}
use Rattle.std.specs.List.{AllByRecursion}
use Rattle.std.specs.Prelude.{IfSome, slice_get}
use Rattle.sr_base.specs.Key.{KeyView}
use Rattle.sr_base.specs.Layout.{LayoutView}
use Rattle.sr_base.specs.declared.shape.Shape.{Shape}
use Rattle.sr_shadow.specs.Book.{is_registered, with_changed, with_taken, without_key}
use Rattle.sr_shadow.specs.Entry.{fresh, is_of}
use Rattle.sr_shadow.specs.Ledger.{AllFit, FitsEntry, LedgerView}
use Rattle.sr_shadow.specs.declared.book.Book.{Book}
use Rattle.sr_shadow.specs.declared.entry.Entry.{Entry}

-- what is found is one of them
found : (s : Shape) (taken : ℕ) (test : Entry → Bool) (es : List Entry) → AllByRecursion (FitsEntry s taken) es → IfSome (find test es) (FitsEntry s taken)
found s taken test [] all = tt
found s taken test (e ∷ es) all = by (test e) (found s taken test es all.1)
  where
    by : (b : Bool) → IfSome (find test es) (FitsEntry s taken) → IfSome (cond b (Some e) (find test es)) (FitsEntry s taken)
    by true rest = all.0
    by false rest = rest

pub fits_found : (s : Shape) (taken : ℕ) (test : Entry → Bool) (es : List Entry) (r : Option Entry) → r ≡ find test es
    → AllByRecursion (FitsEntry s taken) es → IfSome r (FitsEntry s taken)
fits_found s taken test es r is all = subst (λ o. IfSome o (FitsEntry s taken)) (sym is) (found s taken test es all)

got : (s : Shape) (taken : ℕ) (es : List Entry) (i : ℕ) → AllByRecursion (FitsEntry s taken) es → IfSome (slice_get es i) (FitsEntry s taken)
got s taken [] i all = tt
got s taken (e ∷ es) zero all = all.0
got s taken (e ∷ es) (suc i) all = got s taken es i all.1

pub fits_at : (s : Shape) (taken i : ℕ) (es : List Entry) (r : Option Entry) → r ≡ slice_get es i
    → AllByRecursion (FitsEntry s taken) es → IfSome r (FitsEntry s taken)
fits_at s taken i es r is all = subst (λ o. IfSome o (FitsEntry s taken)) (sym is) (got s taken es i all)

-- one that changes still fits
pub fits_changed : (s : Shape) (taken : ℕ) (how : Entry → Entry) (key : KeyView) → ((e : Entry) → FitsEntry s taken e → FitsEntry s taken (how e))
    → (es : List Entry) → AllByRecursion (FitsEntry s taken) es → AllByRecursion (FitsEntry s taken) (with_changed how key es)
fits_changed s taken how key h [] all = tt
fits_changed s taken how key h (e ∷ es) all = (by (is_of key e), fits_changed s taken how key h es all.1)
  where
    by : (b : Bool) → FitsEntry s taken (cond b (how e) e)
    by true = h e all.0
    by false = all.0

-- one less
pub fits_without : (s : Shape) (taken : ℕ) (key : KeyView) (es : List Entry) → AllByRecursion (FitsEntry s taken) es
    → AllByRecursion (FitsEntry s taken) (without_key key es)
fits_without s taken key [] all = tt
fits_without s taken key (e ∷ es) all = by (not (is_of key e)) (fits_without s taken key es all.1)
  where
    by : (b : Bool) → AllByRecursion (FitsEntry s taken) (without_key key es) → AllByRecursion (FitsEntry s taken) (cond b (e ∷ without_key key es) (without_key key es))
    by true rest = (all.0, rest)
    by false rest = rest

-- one more
fits_more : (s : Shape) (taken : ℕ) (key : KeyView) (version : ℕ) (es : List Entry) → AllByRecursion (FitsEntry s taken) es
    → AllByRecursion (FitsEntry s (taken + 1)) (es ++ fresh key version taken ∷ [])
fits_more s taken key version [] all = (record { stands = tt; before = omega arith }, tt)
fits_more s taken key version (e ∷ es) all = (record { stands = all.0.stands; before = omega (arith, all.0.before) }, fits_more s taken key version es all.1)

pub fits_taken : (s : Shape) (key : KeyView) (version : ℕ) (b : Book) → AllByRecursion (FitsEntry s b.taken) b.entries
    → AllByRecursion (FitsEntry s (with_taken key version b).taken) (with_taken key version b).entries
fits_taken s key version b all = by (is_registered key b.entries)
  where
    by : (r : Bool) → AllByRecursion (FitsEntry s (cond r b.taken (b.taken + 1))) (cond r b.entries (b.entries ++ fresh key version b.taken ∷ []))
    by true = all
    by false = fits_more s b.taken key version b.entries all

-- a ledger that keeps its layout, and whose book's entries fit
pub fits_still : (l m : LedgerView) (b : Book) → m.layout ≡ l.layout → m.book ≡ b → AllByRecursion (FitsEntry l.layout.shape b.taken) b.entries → AllFit m
fits_still l m b layout book all =
    subst (λ (y : Book). AllByRecursion (FitsEntry m.layout.shape y.taken) y.entries) (sym book)
    (subst (λ (y : LayoutView). AllByRecursion (FitsEntry y.shape b.taken) b.entries) (sym layout) all)
