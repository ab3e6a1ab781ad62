pub mod Works
pub mod Histories
pub mod UseLists
pub mod Lists
pub mod Piles
pub mod Fronts
pub mod Depths
