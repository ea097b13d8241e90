-- An index of the entries: `Is index es` says that it is that of the list es. What becomes of it as the list changes by one entry, whatever
-- index it is.
use Rattle.std.specs.Prelude.{List, [], ◌∷◌, ◌++◌}
use Rattle.sr_shadow.specs.declared.entry.Entry.{Entry}

-- the new index is that of the list with this entry more, as the last
abbrev pub KeptWith : {T : Type 0} → (T → List Entry → Type 0) → T → T → Entry → Type 0
KeptWith Is old new e = (es : List Entry) → Is old es → Is new (es ++ e ∷ [])

-- that of the list with this entry less
abbrev pub KeptWithout : {T : Type 0} → (T → List Entry → Type 0) → T → T → Entry → Type 0
KeptWithout Is old new e = (front back : List Entry) → Is old (front ++ e ∷ back) → Is new (front ++ back)

-- that of the list with the other entry in this one's place
abbrev pub KeptAs : {T : Type 0} → (T → List Entry → Type 0) → T → T → Entry → Entry → Type 0
KeptAs Is old new e f = (front back : List Entry) → Is old (front ++ e ∷ back) → Is new (front ++ f ∷ back)
