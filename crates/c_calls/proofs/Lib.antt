mod ReadLemmas
mod ListLemmas
mod ArrayLemmas
mod ArrayLines
mod ArrayTexts
