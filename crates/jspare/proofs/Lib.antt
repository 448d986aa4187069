mod PageLemmas
mod PagingLemmas
mod PartLemmas
mod FindingLemmas
