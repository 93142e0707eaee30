pub mod Fitting
pub mod Keeping
pub mod Naming
pub mod Owning
pub mod SortOrders
pub mod StableSorts
